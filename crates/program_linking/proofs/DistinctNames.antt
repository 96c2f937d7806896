-- The names of all classes differ, if the claims on names are met.
use Rattle.std.proofs.Common.{◌≡◌, ◌≢◌, ℕ, suc, Bool, true, false, not, List, [], ◌∷◌, ◌++◌, length, map, Contains, AllPairs, IsPermutation, Some, refl, sym, ◌∙◌, subst, inl, inr, arith, append_assoc}
use Rattle.std.specs.List.{slice_get}
use Rattle.std.specs.Str.{bytes_eq}
use Rattle.std.proofs.lemmas.List.Elements.{Contains-append_left, Contains-append_right, Contains-append_cases}
use Rattle.std.proofs.lemmas.List.Kept.{AllPairs-cons}
use Rattle.std.proofs.lemmas.List.Sorted.{IsPermutation-filter_both, IsPermutation-map, IsPermutation-sym}
use Rattle.std.proofs.lemmas.Map.Keys.{IsDistinct-IsPermutation}
use Rattle.std.proofs.lemmas.Map.Made.{AllPairs-from_IsDistinct, IsDistinct-from_AllPairs}
use Rattle.std.proofs.lemmas.Option.{slice_get_within, get_or_from_slice_get}
use Rattle.std.proofs.lemmas.Slice.Eq.{bytes_eq-Decides}
use Rattle.jvm_model.specs.declared.program.NamedClass.{NamedClass}
use Rattle.jvm_model.specs.declared.stub.StubClass.{StubClass}
use Rattle.jvm_model.specs.Linking.{AreMet, base_first, file_claims, is_base_stub, name_claims, own_classes, stub_claims}
use Rattle.jvm_model.specs.Programs.{Program}
use Rattle.program_index.proofs.ListPlaces.{in_longer, pushed_at}
use Rattle.program_index.proofs.OrderPlaces.{place_of, contains_first, contains_later, contains_cases, contains_none}
use Rattle.program_model.proofs.Assembled.{all_from}
use Rattle.program_linking.specs.Claims.{AreNewNames, all_names, file_name, stub_name}
use Rattle.program_linking.proofs.ClaimSteps.{met_back, met_first, met_front, met_rest}

abbrev pub Differ : List (List ℕ) → Type 0
Differ names = AllPairs (λ x y. x ≢ y) names

-- ---- names in another order

flips : (x y : List ℕ) → bytes_eq x y ≡ bytes_eq y x
flips x y = by (bytes_eq x y) (bytes_eq y x) (λ t. (bytes_eq-Decides y x).1 (sym ((bytes_eq-Decides x y).0 t))) (λ t. (bytes_eq-Decides x y).1 (sym ((bytes_eq-Decides y x).0 t)))
  where
    by : (a b : Bool) → (a ≡ true → b ≡ true) → (b ≡ true → a ≡ true) → a ≡ b
    by true b f g = sym (f refl)
    by false true f g = g refl
    by false false f g = refl

-- names that differ do so in each order
pub differ_permuted : (xs ys : List (List ℕ)) → IsPermutation xs ys → Differ xs → Differ ys
differ_permuted xs ys same differ =
    AllPairs-from_IsDistinct bytes_eq-Decides ys (IsDistinct-IsPermutation bytes_eq flips xs ys same (IsDistinct-from_AllPairs bytes_eq-Decides xs differ))

base_first_names : (classes : List StubClass) → IsPermutation (map stub_name (base_first classes)) (map stub_name classes)
base_first_names classes =
    IsPermutation-map stub_name (base_first classes) classes
    (IsPermutation-sym classes (base_first classes) (IsPermutation-filter_both is_base_stub (λ (c : StubClass). not (is_base_stub c)) (λ c. refl) classes))

-- ---- names of two lists

all_pairs_append : {X : Type 0} (R : X → X → Type 0) (xs ys : List X) → AllPairs R xs → AllPairs R ys → ((x y : X) → Contains xs x → Contains ys y → R x y) → AllPairs R (xs ++ ys)
all_pairs_append R [] ys h g cross = g
all_pairs_append {X} R (x ∷ xs) ys h g cross =
    AllPairs-cons R x (xs ++ ys)
    (all_from (R x) (xs ++ ys) (λ y among. elim (Contains-append_cases xs ys y among) [
      | inl first ↦ let p = place_of xs y first in
          subst (R x) (get_or_from_slice_get xs p.0 y x p.1) (h 0 (suc p.0) x (omega arith) (let within = slice_get_within xs p.0 y p.1 in omega (arith, within)))
      | inr second ↦ cross x y (contains_first x xs) second
    ]))
    (all_pairs_append R xs ys (λ i j d lt within. h (suc i) (suc j) d (omega (arith, lt)) (omega (arith, within))) g (λ a b first second. cross a b (contains_later x xs a first) second))

-- ---- what the claims on names say

-- the names differ, and none is one of these others
record DifferFrom (others names : List (List ℕ)) : Type 0 where
  pairs : Differ names
  fresh : (name : List ℕ) → Contains names name → (Contains others name → ⊥)

-- one name more in front, where the later ones differ from it and from those others too
differ-cons : (others more : List (List ℕ)) (first : List ℕ) (names : List (List ℕ)) → (Contains others first → ⊥) → Contains more first → ((name : List ℕ) → Contains others name → Contains more name)
    → DifferFrom more names → DifferFrom others (first ∷ names)
differ-cons others more first names new at_first at_others rest = record {
  pairs = AllPairs-cons (λ x y. x ≢ y) first names (all_from (λ (y : List ℕ). first ≢ y) names (λ y among e. rest.fresh y among (subst (Contains more) e at_first))) rest.pairs;
  fresh = λ name among has. elim (contains_cases first names name among) [
    | inl e ↦ new (subst (Contains others) (sym e) has)
    | inr later ↦ rest.fresh name later (at_others name has)
  ];
}

files_differ : (p : Program) (others earlier : List (List ℕ)) (files : List NamedClass) → AreMet p (file_claims others earlier files) → DifferFrom (earlier ++ others) (map file_name files)
files_differ p others earlier [] met = record { pairs = λ i j d lt within. absurd (omega (arith, within)); fresh = λ name among. absurd (contains_none name among) }
files_differ p others earlier (f ∷ files) met =
    let name = file_name f in
    let longer = earlier ++ name ∷ [] in
    differ-cons (earlier ++ others) (longer ++ others) name (map file_name files) (met_first p _ _ met)
    (Contains-append_left longer others name (Contains-append_right earlier (name ∷ []) name (contains_first name [])))
    (λ n has. elim (Contains-append_cases earlier others n has) [
      | inl first ↦ Contains-append_left longer others n (Contains-append_left earlier (name ∷ []) n first)
      | inr second ↦ Contains-append_right longer others n second
    ])
    (files_differ p others longer files (met_rest p _ _ met))

stubs_differ : (p : Program) (earlier : List (List ℕ)) (classes : List StubClass) → AreMet p (stub_claims earlier classes) → DifferFrom earlier (map stub_name classes)
stubs_differ p earlier [] met = record { pairs = λ i j d lt within. absurd (omega (arith, within)); fresh = λ name among. absurd (contains_none name among) }
stubs_differ p earlier (c ∷ classes) met =
    let longer = earlier ++ c.name ∷ [] in
    differ-cons earlier longer c.name (map stub_name classes) (met_first p _ _ met)
    (Contains-append_right earlier (c.name ∷ []) c.name (contains_first c.name []))
    (λ n has. Contains-append_left earlier (c.name ∷ []) n has)
    (stubs_differ p longer classes (met_rest p _ _ met))

-- The names of class files and of stubs that are classes of their own differ.
pub names_differ : (p : Program) (files : List NamedClass) (stubs : List StubClass) → AreMet p (name_claims files (own_classes stubs)) → Differ (all_names files stubs)
names_differ p files stubs met =
    let own = own_classes stubs in
    let others = map stub_name own in
    let of_files = files_differ p others [] files (met_front p (file_claims others [] files) (stub_claims [] (base_first own)) met) in
    let of_stubs = stubs_differ p [] (base_first own) (met_back p (file_claims others [] files) (stub_claims [] (base_first own)) met) in
    all_pairs_append (λ x y. x ≢ y) (map file_name files) others of_files.pairs (differ_permuted (map stub_name (base_first own)) others (base_first_names own) of_stubs.pairs)
    (λ x y first second e. of_files.fresh x first (subst (Contains others) (sym e) second))

-- ---- names that are new one after the other

new_beside : (earlier names : List (List ℕ)) → Differ (earlier ++ names) → AreNewNames earlier names
new_beside earlier [] differ = tt
new_beside earlier (name ∷ names) differ =
    let front = earlier ++ name ∷ [] in
    let apart : Differ (front ++ names) = subst Differ (sym (append_assoc earlier (name ∷ []) names)) differ in
    let last : slice_get (front ++ names) (length earlier) ≡ Some name = in_longer front names (length earlier) name (pushed_at earlier name) in (
      record {
        nowhere = λ i at.
            let first : slice_get (front ++ names) i ≡ Some name = in_longer front names i name (in_longer earlier (name ∷ []) i name at) in
            apart i (length earlier) name (slice_get_within earlier i name at) (slice_get_within (front ++ names) (length earlier) name last)
            (get_or_from_slice_get (front ++ names) i name name first ∙ sym (get_or_from_slice_get (front ++ names) (length earlier) name name last));
      },
      new_beside front names apart,
    )

-- So each name is new after those before it.
pub names_new : (p : Program) (files : List NamedClass) (stubs : List StubClass) → AreMet p (name_claims files (own_classes stubs)) → AreNewNames [] (all_names files stubs)
names_new p files stubs met = new_beside [] (all_names files stubs) (names_differ p files stubs met)
