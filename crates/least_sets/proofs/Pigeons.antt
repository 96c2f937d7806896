-- A list without doubles whose elements are all in another list is not longer.
use Rattle.std.proofs.Common.{◌≡◌, ℕ, suc, ◌<◌, ◌≤◌, true, false, eqb, List, [], ◌∷◌, length, get_or, refl, sym, ◌∙◌, ap, arith, inl, inr}
use Rattle.std.specs.List.{Contains, All, AllByRecursion, IsDistinct, list_any}
use Rattle.std.proofs.lemmas.Bool.{cases_Bool, or_cases}
use Rattle.std.proofs.lemmas.List.{get_or_default}
use Rattle.std.proofs.lemmas.List.Elements.{recursion_from_All}
use Rattle.std.proofs.lemmas.Map.Steps.{length-le_from_distinct_below}
use Rattle.std.proofs.lemmas.Map.Views.{exact_unsigned_eq}
use Rattle.list_laws.proofs.Places.{place_of}
use Rattle.least_sets.specs.Rules.{IsDerivable, IsLeast, IsWithoutDoubles}
use Rattle.least_sets.proofs.Least.{derivable_in_least}

-- where each element stands in the other list
places : {F : Type 0} (xs ys : List F) → AllByRecursion (Contains xs) ys → List ℕ
places xs [] h = []
places xs (y ∷ ys) h = h.0.0 ∷ places xs ys h.1

length-places : {F : Type 0} (xs ys : List F) (h : AllByRecursion (Contains xs) ys) → length (places xs ys h) ≡ length ys
unfolding places
length-places xs [] h = refl
length-places xs (y ∷ ys) h = ap suc (length-places xs ys h.1)

places_below : {F : Type 0} (xs ys : List F) (h : AllByRecursion (Contains xs) ys) (q : ℕ) → list_any (eqb q) (places xs ys h) ≡ true → q < length xs
unfolding places
places_below xs [] h q e = cc
places_below xs (y ∷ ys) h q e = elim (or_cases (eqb q h.0.0) (list_any (eqb q) (places xs ys h.1)) e) [
  | inl here ↦ (let same = exact_unsigned_eq q h.0.0 here in let l = h.0.1 in omega arith)
  | inr there ↦ places_below xs ys h.1 q there
]

apart_from : {F : Type 0} (xs : List F) (y : F) (at : Contains xs y) (ys : List F) (h : AllByRecursion (Contains xs) ys) → (Contains ys y → ⊥) → AllByRecursion (λ j. eqb at.0 j ≡ false) (places xs ys h)
unfolding places
apart_from xs y at [] h absent = tt
apart_from {F} xs y at (z ∷ zs) h absent = (
  elim (cases_Bool (eqb at.0 h.0.0)) [
    | inr apart ↦ apart
    | inl same ↦ absurd (absent (
      0,
      omega arith,
      sym h.0.2 ∙ ap (λ (k : ℕ). get_or xs k z) (sym (exact_unsigned_eq at.0 h.0.0 same)) ∙ get_or_default xs at.0 z y at.1 ∙ at.2,
    ))
  ],
  apart_from xs y at zs h.1 (λ c. absent (suc c.0, (let l = c.1 in omega arith), c.2)),
)

places_apart : {F : Type 0} (xs ys : List F) (h : AllByRecursion (Contains xs) ys) → IsWithoutDoubles ys → IsDistinct eqb (places xs ys h)
unfolding places IsDistinct
places_apart xs [] h apart = tt
places_apart {F} xs (y ∷ ys) h apart = (
  apart_from xs y h.0 ys h.1 (λ c. let p = place_of ys y c in absurd (let zero_is_suc = apart y 0 (suc p.0) refl p.1 in omega arith)),
  places_apart xs ys h.1 (λ fact i j p q. let same = apart fact (suc i) (suc j) p q in omega arith),
)

pub length-le_from_apart : {F : Type 0} (xs ys : List F) → IsWithoutDoubles ys → All (Contains xs) ys → length ys ≤ length xs
length-le_from_apart xs ys apart all =
    let h = recursion_from_All (Contains xs) ys all in
    let short = length-le_from_distinct_below (places xs ys h) (length xs) (places_apart xs ys h apart) (places_below xs ys h) in
    omega (arith, length-places xs ys h)

-- a least list is no shorter than a list of different derivable facts
pub length-le_from_derivable : {F : Type 0} (I : List F → F → Type 0) (least facts : List F) → IsLeast I least → IsWithoutDoubles facts → All (IsDerivable I) facts → length facts ≤ length least
length-le_from_derivable I least facts is_least apart derivable =
    length-le_from_apart least facts apart (λ k d l. derivable_in_least I least is_least (get_or facts k d) (derivable k d l))
