-- The units and the results of a call, by the places of its entry.
use Rattle.std.proofs.Common.{◌≡◌, ℕ, zero, suc, List, [], ◌∷◌, Option, Some, None, refl, sym, ap}
use Rattle.std.specs.List.{slice_get, AllZip}
use Rattle.std.proofs.lemmas.Option.{none-some, same_Some}
use Rattle.points_to_rules.specs.Facts.{Holder}
use Rattle.points_to_rules.specs.declared.place.PlaceNo.{PlaceNo}
use Rattle.points_to_numbers.specs.Numbered.{Numbered, IsUnitAt}
use Rattle.points_to_calls.specs.Parts.{unit_in}

pub results_at : (n : Numbered) (places : List PlaceNo) (holders : List Holder) (k : ℕ) → AllZip (λ (place : PlaceNo) (h : Holder). slice_get n.holders place.0 ≡ Some h) places holders
    → IsUnitAt n (slice_get places k) (slice_get holders k)
results_at n [] [] k all = tt
results_at n [] (h ∷ holders) k all = absurd all
results_at n (p ∷ places) [] k all = absurd all
results_at n (p ∷ places) (h ∷ holders) zero all = all.0
results_at n (p ∷ places) (h ∷ holders) (suc k) all = results_at n places holders k all.1

pub units_at : (n : Numbered) (places : List (Option PlaceNo)) (units : List (Option Holder)) (k : ℕ) → AllZip (IsUnitAt n) places units
    → IsUnitAt n (unit_in places k) (unit_in units k)
units_at n [] [] k all = tt
units_at n [] (u ∷ units) k all = absurd all
units_at n (p ∷ places) [] k all = absurd all
units_at n (p ∷ places) (u ∷ units) zero all = all.0
units_at n (p ∷ places) (u ∷ units) (suc k) all = units_at n places units k all.1

-- a unit by the place in the list
pub unit_there : {X : Type 0} (units : List (Option X)) (k : ℕ) (u : Option X) → slice_get units k ≡ Some u → unit_in units k ≡ u
unit_there [] k u e = absurd (none-some u e)
unit_there (v ∷ units) zero u e = same_Some v u e
unit_there (v ∷ units) (suc k) u e = unit_there units k u e

pub no_unit_there : {X : Type 0} (units : List (Option X)) (k : ℕ) → slice_get units k ≡ None → unit_in units k ≡ None
no_unit_there [] k e = refl
no_unit_there (v ∷ units) zero e = absurd (none-some v (sym e))
no_unit_there (v ∷ units) (suc k) e = no_unit_there units k e

pub there_from_unit : {X : Type 0} (units : List (Option X)) (k : ℕ) (x : X) → unit_in units k ≡ Some x → slice_get units k ≡ Some (Some x)
there_from_unit [] k x e = absurd (none-some x e)
there_from_unit (v ∷ units) zero x e = ap Some e
there_from_unit (v ∷ units) (suc k) x e = there_from_unit units k x e

-- what a place of the entry stands for
pub stands_for : (n : Numbered) (place : PlaceNo) (o : Option Holder) → IsUnitAt n (Some place) o → (h : Holder) × (o ≡ Some h) × (slice_get n.holders place.0 ≡ Some h)
stands_for n place None is = absurd is
stands_for n place (Some h) is = (h, refl, is)

pub stands_for_none : (n : Numbered) (o : Option Holder) → IsUnitAt n None o → o ≡ None
stands_for_none n None is = refl
stands_for_none n (Some h) is = absurd is

pub no_place : (n : Numbered) (place : Option PlaceNo) (o : Option Holder) → ((x : PlaceNo) → place ≡ Some x → ⊥) → IsUnitAt n place o → o ≡ None
no_place n None o none is = stands_for_none n o is
no_place n (Some x) o none is = absurd (none x refl)
