-- Descriptors that are taken apart by hand, and what is and what is not a subtype.
use Rattle.std.proofs.Common.{codes, ◌≡◌, ◌⊎◌, inl, inr, ℕ, Bool, true, false, not, ◌&&◌, ◌||◌, leb, cond, List, [], ◌∷◌, ◌++◌, All, Contains, Option, Some, None, bytes_eq, sum_by, flat_map, refl, sym, ap, ◌∙◌, subst, true≢false, leb-true, arith, find}
use Rattle.std.specs.List.{list_all, list_any, join_with_byte}
use Rattle.std.proofs.lemmas.Bool.{and_parts}
use Rattle.std.proofs.lemmas.List.Elements.{All-nil, All-cons, All-contains}
use Rattle.std.proofs.lemmas.List.Sums.{AllPass-from_list_all}
use Rattle.std.proofs.lemmas.Option.{same_Some, none-some}
use Rattle.std.proofs.lemmas.Slice.Eq.{bytes_eq-Decides}
use Rattle.jvm_model.specs.Descriptors.{is_base_letter, units_of, IsFieldDescriptor}
use Rattle.jvm_model.specs.Instructions.{HasDescriptorUnits, kinds_of}
use Rattle.jvm_model.specs.Names.{is_unqualified_name}
use Rattle.jvm_model.specs.Programs.{Program, Class}
use Rattle.jvm_model.specs.Soundness.{is_array}
use Rattle.jvm_model.specs.Subtypes.{IsDirectSuper, IsSubtype, same, below, Fits, by_class, by_array, by_itself, by_elements}

-- ---- descriptors

pub base_type : (letter : ℕ) → is_base_letter letter ≡ true → IsFieldDescriptor (letter ∷ [])
base_type letter is = record { dimensions = 0; limit = omega arith; type_is = inl (letter, is, refl) }

-- the type of a class by the parts of its name
pub class_type : (part : List ℕ) (parts : List (List ℕ)) → list_all is_unqualified_name (part ∷ parts) ≡ true → IsFieldDescriptor (76 ∷ (join_with_byte 47 (part ∷ parts) ++ 59 ∷ []))
class_type part parts are = record {
  dimensions = 0;
  limit = omega arith;
  type_is = inr (join_with_byte 47 (part ∷ parts), record { parts = part ∷ parts; some = omega arith; each = AllPass-from_list_all is_unqualified_name (part ∷ parts) are; joined = refl }, refl);
}

-- no parameter, and one
pub no_types : All IsFieldDescriptor []
no_types = All-nil IsFieldDescriptor

pub one_type : (type : List ℕ) → IsFieldDescriptor type → All IsFieldDescriptor (type ∷ [])
one_type type is = All-cons IsFieldDescriptor type [] is no_types

-- the units of a descriptor by its parameters and its result
abbrev pub units_by : (parameters : List (List ℕ)) (outcome : List ℕ) → All IsFieldDescriptor parameters → leb (sum_by units_of parameters) 255 ≡ true → (outcome ≡ codes "V") ⊎ IsFieldDescriptor outcome
    → HasDescriptorUnits (40 ∷ (flat_map (λ (p : List ℕ). p) parameters ++ 41 ∷ outcome)) (flat_map kinds_of parameters) (kinds_of outcome)
units_by parameters outcome each few outcome_is = record {
  is = record { parameters = parameters; outcome = outcome; spelled = refl; each = each; units = leb-true _ _ few; outcome_is = outcome_is };
  parameters_are = refl;
  results_are = refl;
}

-- ---- what a search finds

pub found_passes : {X : Type 0} (test : X → Bool) (xs : List X) (x : X) → find test xs ≡ Some x → test x ≡ true
found_passes test [] x e = absurd (none-some x e)
found_passes {X} test (y ∷ ys) x e = by (test y) refl (found_passes test ys x) e where
  by : (b : Bool) → test y ≡ b → (find test ys ≡ Some x → test x ≡ true) → cond b (Some y) (find test ys) ≡ Some x → test x ≡ true
  by true t more f = subst (λ (z : X). test z ≡ true) (same_Some y x f) t
  by false t more f = more f

pub found_is_any : {X : Type 0} (test all : X → Bool) (xs : List X) (x : X) → find test xs ≡ Some x → list_all all xs ≡ true → all x ≡ true
found_is_any test all [] x e h = absurd (none-some x e)
found_is_any {X} test all (y ∷ ys) x e h =
    let both = and_parts (all y) (list_all all ys) h in
    by (test y) e both.0 (λ f. found_is_any test all ys x f both.1)
  where
    by : (b : Bool) → cond b (Some y) (find test ys) ≡ Some x → all y ≡ true → (find test ys ≡ Some x → all x ≡ true) → all x ≡ true
    by true f a more = subst (λ (z : X). all z ≡ true) (same_Some y x f) a
    by false f a more = more f

-- ---- no subtypes

-- the names are closed upward
abbrev pub among : List (List ℕ) → List ℕ → Bool
among names name = list_any (bytes_eq name) names

abbrev pub super_among : List (List ℕ) → Option (List ℕ) → Bool
super_among names None = true
super_among names (Some name) = among names name

abbrev pub leads_up : List (List ℕ) → Class → Bool
leads_up names c = not (among names c.name) || (super_among names c.super_class && list_all (among names) c.interfaces)

abbrev pub closed_up : List (List ℕ) → Program → Bool
closed_up names p = list_all (leads_up names) p.classes

pub or_second : (a b : Bool) → a ≡ true → (not a || b) ≡ true → b ≡ true
or_second true b e h = h
or_second false b e h = absurd (true≢false (sym e))

all_contained : {X : Type 0} (test : X → Bool) (xs : List X) (x : X) → list_all test xs ≡ true → Contains xs x → test x ≡ true
all_contained test xs x h there = All-contains (λ y. test y ≡ true) xs x (AllPass-from_list_all test xs h) there

super_there : (names : List (List ℕ)) (o : Option (List ℕ)) (super : List ℕ) → super_among names o ≡ true → o ≡ Some super → among names super ≡ true
super_there names o super h e = subst (λ (q : Option (List ℕ)). super_among names q ≡ true) e h

pub direct_among : (names : List (List ℕ)) (c : Class) (super : List ℕ) → super_among names c.super_class ≡ true → list_all (among names) c.interfaces ≡ true → IsDirectSuper c super → among names super ≡ true
direct_among names c super h k (inl e) = super_there names c.super_class super h e
direct_among names c super h k (inr there) = all_contained (among names) c.interfaces super k there

pub stays_among : (p : Program) (names : List (List ℕ)) → closed_up names p ≡ true → (above name : List ℕ) → IsSubtype p above name → among names name ≡ true → among names above ≡ true
stays_among p names up above _ (same name e) h = subst (λ (n : List ℕ). among names n ≡ true) e h
stays_among p names up above _ (below name c super named direct more) h =
    let is : c.name ≡ name = (bytes_eq-Decides c.name name).0 (found_passes (λ (d : Class). bytes_eq d.name name) p.classes c named) in
    let there = found_is_any (λ (d : Class). bytes_eq d.name name) (leads_up names) p.classes c named up in
    let inside = or_second (among names c.name) _ (subst (λ (n : List ℕ). among names n ≡ true) (sym is) h) there in
    let both = and_parts (super_among names c.super_class) _ inside in
    stays_among p names up above super more (direct_among names c super both.0 both.1 direct)

pub no_subtype : (p : Program) (names : List (List ℕ)) (above name : List ℕ) → closed_up names p ≡ true → among names name ≡ true → among names above ≡ false → IsSubtype p above name → ⊥
no_subtype p names above name up there outside is = true≢false (sym (stays_among p names up above name is there) ∙ outside)

-- an object of a class that is no array is not of another class that its supertypes do not reach
pub no_fit : (p : Program) (names : List (List ℕ)) (above name : List ℕ) → closed_up names p ≡ true → among names name ≡ true → among names above ≡ false → is_array name ≡ false → Fits p above name → ⊥
no_fit p names above name up there outside plain fits = by fits up there outside plain where
  by : Fits p above name → closed_up names p ≡ true → among names name ≡ true → among names above ≡ false → is_array name ≡ false → ⊥
  by (by_class _ _ c named is) up there outside plain = no_subtype p names above name up there outside is
  by (by_array _ _ array is) up there outside plain = true≢false (sym array ∙ plain)
  by (by_itself _ _ array is) up there outside plain = true≢false (sym array ∙ plain)
  by (by_elements _ _ a b is_above is_below more) up there outside plain = true≢false (sym (ap is_array is_below) ∙ plain)
