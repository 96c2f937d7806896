-- The class file of an example is linked beside the base stubs.
use Rattle.std.proofs.Common.{codes, ◌≡◌, ℕ, zero, suc, ◌+◌, ◌<◌, Bool, true, false, not, ◌&&◌, ◌||◌, nat_lt, List, [], ◌∷◌, length, map, Contains, Ok, bytes_eq, slice_index_or, is_lt, nat_cmp, refl, sym, ◌∙◌, subst, true≢false, ltb-true, arith, IsSorted}
use Rattle.std.specs.Cmp.Lexicographic.{slice_cmp}
use Rattle.std.specs.List.{list_all}
use Rattle.std.specs.List.Sorted.{SwapsInRange, apply_swaps}
use Rattle.std.proofs.lemmas.Bool.{and_parts}
use Rattle.std.proofs.lemmas.List.Elements.{All-contains, All-weaker}
use Rattle.std.proofs.lemmas.List.Sorted.{IsPermutation-refl}
use Rattle.std.proofs.lemmas.List.Sums.{AllPass-from_list_all}
use Rattle.std.proofs.lemmas.Map.Views.{Contains-from_any}
use Rattle.std.proofs.lemmas.Slice.Eq.{bytes_eq-Decides}
use Rattle.jvm_model.specs.declared.program.NamedClass.{NamedClass}
use Rattle.jvm_model.specs.declared.program.Origin.{Origin}
use Rattle.jvm_model.specs.Code.{CodeBody}
use Rattle.jvm_model.specs.Linking.{Claim, Demand, differs, is_there, of_kind, no_cycle, Meets, Links, linked, claims, names, origins, program_from}
use Rattle.jvm_model.specs.Programs.{Class, Program}
use Rattle.jvm_model.specs.Subtypes.{IsCyclic}
use Rattle.stub_file.specs.BaseStubs.{base_classes}
use Rattle.example_machine.proofs.LinkTests.{ancestors, ascend, are_met, is_acyclic, is_met, same_bool, supers_are}
use Rattle.example_machine.proofs.Types.{among, closed_up, direct_among, found_is_any, found_passes, or_second, stays_among, super_among}
use Rattle.example_runs.specs.Examples.{class_with_main}

abbrev pub named : CodeBody → NamedClass
named main = record { file = codes "F.class"; class = class_with_main main }

-- exchanges after which the classes stand in byte order of their names
abbrev moves : List (ℕ × ℕ)
moves =
    (51, 54) ∷ (50, 54) ∷ (49, 51) ∷ (48, 53) ∷ (47, 50) ∷ (46, 49) ∷ (44, 50) ∷ (43, 49) ∷ (42, 51) ∷ (41, 52) ∷ (40, 45) ∷ (39, 52) ∷ (38, 40)
    ∷ (37, 48) ∷ (36, 50) ∷ (35, 36) ∷ (34, 54) ∷ (33, 40) ∷ (32, 52) ∷ (31, 32) ∷ (30, 32) ∷ (29, 41) ∷ (28, 43) ∷ (27, 42) ∷ (26, 53) ∷ (25, 29)
    ∷ (24, 30) ∷ (22, 35) ∷ (21, 33) ∷ (20, 33) ∷ (19, 38) ∷ (18, 22) ∷ (17, 23) ∷ (16, 22) ∷ (15, 51) ∷ (14, 39) ∷ (13, 48) ∷ (12, 37) ∷ (11, 34)
    ∷ (10, 25) ∷ (9, 22) ∷ (8, 20) ∷ (7, 34) ∷ (6, 9) ∷ (5, 24) ∷ (4, 23) ∷ (3, 35) ∷ (2, 21) ∷ (1, 8) ∷ []

abbrev pub order : CodeBody → List Origin
order main = apply_swaps (origins (named main ∷ []) base_classes) moves

abbrev pub program : CodeBody → Program
program main = program_from (order main)

-- ---- byte order

not_then : (b : Bool) → not b ≡ true → b ≡ false
not_then true h = absurd (true≢false (sym h))
not_then false h = refl

sorted_at : (xs : List (List ℕ)) (k : ℕ) (d : List ℕ) → ascend xs ≡ true → suc k < length xs → is_lt (slice_cmp nat_cmp (slice_index_or xs (suc k) d) (slice_index_or xs k d)) ≡ false
sorted_at [] k d h l = absurd (omega (arith, l))
sorted_at (y ∷ []) k d h l = absurd (omega (arith, l))
sorted_at (y ∷ z ∷ others) zero d h l = not_then _ (and_parts (not (is_lt (slice_cmp nat_cmp z y))) (ascend (z ∷ others)) h).0
sorted_at (y ∷ z ∷ others) (suc k) d h l = sorted_at (z ∷ others) k d (and_parts (not (is_lt (slice_cmp nat_cmp z y))) (ascend (z ∷ others)) h).1 (omega (arith, l))

pub sorted : (xs : List (List ℕ)) → ascend xs ≡ true → IsSorted (slice_cmp nat_cmp) xs
sorted xs h k d low high =
    let next : k + 1 ≡ suc k = omega arith in
    subst (λ (i : ℕ). is_lt (slice_cmp nat_cmp (slice_index_or xs i d) (slice_index_or xs k d)) ≡ false) (sym next) (sorted_at xs k d h (omega (arith, high)))

abbrev are_within : ℕ → List (ℕ × ℕ) → Bool
are_within n swaps = list_all (λ (s : ℕ × ℕ). nat_lt s.0 n && nat_lt s.1 n) swaps

within : (n : ℕ) (swaps : List (ℕ × ℕ)) → are_within n swaps ≡ true → SwapsInRange n swaps
within n [] h = tt
within n (s ∷ swaps) h =
    let both = and_parts (nat_lt s.0 n && nat_lt s.1 n) (are_within n swaps) h in
    let here = and_parts (nat_lt s.0 n) (nat_lt s.1 n) both.0 in
    (ltb-true _ _ here.0, ltb-true _ _ here.1, within n swaps both.1)

in_order : (main : CodeBody) → ascend (names (order main)) ≡ true
in_order main = refl

-- ---- demands

same_bools : (a b : Bool) → same_bool a b ≡ true → a ≡ b
same_bools true true h = refl
same_bools true false h = absurd (true≢false (sym h))
same_bools false true h = absurd (true≢false (sym h))
same_bools false false h = refl

-- no class whose supertypes are closed upward, and which is none of them, is above itself
acyclic : (p : Program) (name : List ℕ) (above : List (List ℕ)) → is_acyclic p name above ≡ true → IsCyclic p name → ⊥
acyclic p name above h cycle =
    let both = and_parts (closed_up above p) _ h in
    let rest = and_parts (not (among above name)) (list_all (supers_are above name) p.classes) both.1 in
    let is : bytes_eq cycle.class.name name ≡ true = found_passes (λ (d : Class). bytes_eq d.name name) p.classes cycle.class cycle.named in
    let up = or_second (bytes_eq cycle.class.name name) _ is (found_is_any (λ (d : Class). bytes_eq d.name name) (supers_are above name) p.classes cycle.class cycle.named rest.1) in
    let supers = and_parts (super_among above cycle.class.super_class) _ up in
    let there = direct_among above cycle.class cycle.super supers.0 supers.1 cycle.direct in
    true≢false (sym (stays_among p above both.0 name cycle.super cycle.back there) ∙ not_then (among above name) rest.0)

passes_of : {X : Type 0} (test : X → Bool) (xs : List X) (x : X) → list_all test xs ≡ true → Contains xs x → test x ≡ true
passes_of test xs x h there = All-contains (λ y. test y ≡ true) xs x (AllPass-from_list_all test xs h) there

met : (p : Program) (d : Demand) → is_met p d ≡ true → Meets p d
met p (differs earlier name) h = λ there.
    true≢false (sym ((bytes_eq-Decides name name).1 refl) ∙ not_then (bytes_eq name name) (passes_of (λ (e : List ℕ). not (bytes_eq e name)) earlier name h there))
met p (is_there name) h = Contains-from_any (λ a b. (bytes_eq-Decides a b).0) name (map (λ (c : Class). c.name) p.classes) h
met p (of_kind is_interface name) h = λ c there is.
    same_bools c.is_interface is_interface (or_second (bytes_eq c.name name) (same_bool c.is_interface is_interface) ((bytes_eq-Decides c.name name).1 is)
    (passes_of (λ (d : Class). not (bytes_eq d.name name) || same_bool d.is_interface is_interface) p.classes c h there))
met p (no_cycle name) h = acyclic p name (ancestors p 8 name) h

all_met : (main : CodeBody) → are_met (program main) (claims (named main ∷ []) base_classes (order main)) ≡ true
all_met main = refl

-- ---- the program

pub links : (main : CodeBody) → Links (named main ∷ []) base_classes (Ok (program main))
links main = record {
  ordered = named main ∷ [];
  by_file = record { same = IsPermutation-refl (named main ∷ []); sorted = sorted (codes "F.class" ∷ []) refl };
  links = linked (order main)
      (record { same = record { moves = moves; below = within 55 moves refl; is = refl }; sorted = sorted (names (order main)) (in_order main) })
      (All-weaker (λ (c : Claim). is_met (program main) c.demand ≡ true) (λ (c : Claim). Meets (program main) c.demand) (λ c h. met (program main) c.demand h)
      (claims (named main ∷ []) base_classes (order main))
      (AllPass-from_list_all (λ (c : Claim). is_met (program main) c.demand) (claims (named main ∷ []) base_classes (order main)) (all_met main)))
      refl;
}
