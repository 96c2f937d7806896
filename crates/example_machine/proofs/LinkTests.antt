-- What linking demands of a program, as one test of the program: where it is passed, linking gives the program.
use Rattle.std.proofs.Common.{◌≡◌, ℕ, zero, suc, ◌+◌, ◌<◌, Bool, true, false, not, ◌&&◌, ◌||◌, List, [], ◌∷◌, ◌++◌, length, map, Contains, Ok, bytes_eq, option_to_list, flat_map, slice_index_or, is_lt, nat_cmp, refl, sym, ◌∙◌, subst, true≢false, arith, IsPermutation, IsSorted}
use Rattle.std.specs.Cmp.Lexicographic.{slice_cmp}
use Rattle.std.specs.List.{list_all, list_any}
use Rattle.std.specs.Option.{option_map_or}
use Rattle.std.proofs.lemmas.Bool.{and_parts}
use Rattle.std.proofs.lemmas.List.Elements.{All-contains, All-weaker}
use Rattle.std.proofs.lemmas.List.Sums.{AllPass-from_list_all}
use Rattle.std.proofs.lemmas.List.Sorted.{IsPermutation-refl}
use Rattle.std.proofs.lemmas.Slice.Eq.{bytes_eq-Decides}
use Rattle.jvm_model.specs.declared.program.NamedClass.{NamedClass}
use Rattle.jvm_model.specs.declared.program.Origin.{Origin}
use Rattle.jvm_model.specs.declared.stub.StubClass.{StubClass}
use Rattle.jvm_model.specs.Linking.{Demand, differs, is_there, of_kind, no_cycle, Meets, Claim, claims, Links, linked, names, origins, program_from}
use Rattle.jvm_model.specs.Programs.{Program, Class}
use Rattle.jvm_model.specs.Subtypes.{class_named, IsCyclic}
use Rattle.example_machine.proofs.Types.{among, super_among, closed_up, direct_among, found_passes, found_is_any, or_second, stays_among}

-- ---- orders

abbrev pub ascend : List (List ℕ) → Bool
ascend [] = true
ascend (x ∷ []) = true
ascend (x ∷ y ∷ others) = not (is_lt (slice_cmp nat_cmp y x)) && ascend (y ∷ others)

not_then : (b : Bool) → not b ≡ true → b ≡ false
not_then true h = absurd (true≢false (sym h))
not_then false h = refl

sorted_at : (xs : List (List ℕ)) (k : ℕ) (d : List ℕ) → ascend xs ≡ true → suc k < length xs → is_lt (slice_cmp nat_cmp (slice_index_or xs (suc k) d) (slice_index_or xs k d)) ≡ false
sorted_at [] k d h l = absurd (omega (arith, l))
sorted_at (x ∷ []) k d h l = absurd (omega (arith, l))
sorted_at (x ∷ y ∷ others) zero d h l = not_then _ (and_parts (not (is_lt (slice_cmp nat_cmp y x))) (ascend (y ∷ others)) h).0
sorted_at (x ∷ y ∷ others) (suc k) d h l = sorted_at (y ∷ others) k d (and_parts (not (is_lt (slice_cmp nat_cmp y x))) (ascend (y ∷ others)) h).1 (omega (arith, l))

sorted : (xs : List (List ℕ)) → ascend xs ≡ true → IsSorted (slice_cmp nat_cmp) xs
sorted xs h k d low high =
    let next : k + 1 ≡ suc k = omega arith in
    subst (λ (i : ℕ). is_lt (slice_cmp nat_cmp (slice_index_or xs i d) (slice_index_or xs k d)) ≡ false) (sym next) (sorted_at xs k d h (omega (arith, high)))

-- ---- demands

abbrev pub same_bool : Bool → Bool → Bool
same_bool true b = b
same_bool false b = not b

-- the supertypes of a class, so many steps upward
abbrev pub ancestors : Program → ℕ → List ℕ → List (List ℕ)
ancestors p zero name = []
ancestors p (suc count) name = option_map_or (λ (c : Class). flat_map (λ (super : List ℕ). super ∷ ancestors p count super) (option_to_list c.super_class ++ c.interfaces)) (class_named p name) []

-- the direct supertypes of a class of the name are among these
abbrev pub supers_are : List (List ℕ) → List ℕ → Class → Bool
supers_are above name c = not (bytes_eq c.name name) || (super_among above c.super_class && list_all (among above) c.interfaces)

-- no class of the name is above itself
abbrev pub is_acyclic : Program → List ℕ → List (List ℕ) → Bool
is_acyclic p name above = closed_up above p && (not (among above name) && list_all (supers_are above name) p.classes)

abbrev pub is_met : Program → Demand → Bool
is_met p (differs earlier name) = list_all (λ (e : List ℕ). not (bytes_eq e name)) earlier
is_met p (is_there name) = list_any (bytes_eq name) (map (λ (c : Class). c.name) p.classes)
is_met p (of_kind is_interface name) = list_all (λ (c : Class). not (bytes_eq c.name name) || same_bool c.is_interface is_interface) p.classes
is_met p (no_cycle name) = is_acyclic p name (ancestors p 8 name)

contained : (name : List ℕ) (xs : List (List ℕ)) → list_any (bytes_eq name) xs ≡ true → Contains xs name
contained name [] h = absurd (true≢false (sym h))
contained name (x ∷ xs) h = by (bytes_eq name x) refl h (contained name xs) where
  by : (b : Bool) → bytes_eq name x ≡ b → (b || list_any (bytes_eq name) xs) ≡ true → (list_any (bytes_eq name) xs ≡ true → Contains xs name) → Contains (x ∷ xs) name
  by true e f more = (0, omega arith, sym ((bytes_eq-Decides name x).0 e))
  by false e f more = let there = more f in (suc there.0, omega (arith, there.1), there.2)

same_bools : (a b : Bool) → same_bool a b ≡ true → a ≡ b
same_bools true true h = refl
same_bools true false h = absurd (true≢false (sym h))
same_bools false true h = absurd (true≢false (sym h))
same_bools false false h = refl

acyclic : (p : Program) (name : List ℕ) (above : List (List ℕ)) → is_acyclic p name above ≡ true → IsCyclic p name → ⊥
acyclic p name above h cycle =
    let both = and_parts (closed_up above p) _ h in
    let rest = and_parts (not (among above name)) (list_all (supers_are above name) p.classes) both.1 in
    let is : bytes_eq cycle.class.name name ≡ true = found_passes (λ (d : Class). bytes_eq d.name name) p.classes cycle.class cycle.named in
    let up = or_second (bytes_eq cycle.class.name name) _ is (found_is_any (λ (d : Class). bytes_eq d.name name) (supers_are above name) p.classes cycle.class cycle.named rest.1) in
    let supers = and_parts (super_among above cycle.class.super_class) _ up in
    let there = direct_among above cycle.class cycle.super supers.0 supers.1 cycle.direct in
    true≢false (sym (stays_among p above both.0 name cycle.super cycle.back there) ∙ not_then (among above name) rest.0)

met : (p : Program) (d : Demand) → is_met p d ≡ true → Meets p d
met p (differs earlier name) h = λ there.
    true≢false (sym ((bytes_eq-Decides name name).1 refl) ∙ not_then (bytes_eq name name) (All-contains (λ (e : List ℕ). not (bytes_eq e name) ≡ true) earlier name (AllPass-from_list_all (λ (e : List ℕ). not (bytes_eq e name)) earlier h) there))
met p (is_there name) h = contained name (map (λ (c : Class). c.name) p.classes) h
met p (of_kind is_interface name) h = λ c there is.
    let test : Class → Bool = λ d. not (bytes_eq d.name name) || same_bool d.is_interface is_interface in
    same_bools c.is_interface is_interface
    (or_second (bytes_eq c.name name) (same_bool c.is_interface is_interface) ((bytes_eq-Decides c.name name).1 is) (All-contains (λ (d : Class). test d ≡ true) p.classes c (AllPass-from_list_all test p.classes h) there))
met p (no_cycle name) h = acyclic p name (ancestors p 8 name) h

abbrev pub are_met : Program → List Claim → Bool
are_met p all = list_all (λ (c : Claim). is_met p c.demand) all

-- ---- linking

-- files and stubs whose classes stand in order, and which meet what is demanded, are linked
pub links : (files : List NamedClass) (stubs : List StubClass) (order : List Origin) → origins files stubs ≡ order → ascend (names order) ≡ true → ascend (map (λ (f : NamedClass). f.file) files) ≡ true
    → are_met (program_from order) (claims files stubs order) ≡ true → Links files stubs (Ok (program_from order))
links files stubs order same in_order by_file all = record {
  ordered = files;
  by_file = record { same = IsPermutation-refl files; sorted = sorted (map (λ (f : NamedClass). f.file) files) by_file };
  links = linked order
      (record { same = subst (λ (o : List Origin). IsPermutation (origins files stubs) o) same (IsPermutation-refl (origins files stubs)); sorted = sorted (names order) in_order })
      (All-weaker (λ (c : Claim). is_met (program_from order) c.demand ≡ true) (λ (c : Claim). Meets (program_from order) c.demand) (λ c h. met (program_from order) c.demand h) (claims files stubs order)
      (AllPass-from_list_all (λ (c : Claim). is_met (program_from order) c.demand) (claims files stubs order) all))
      refl;
}
