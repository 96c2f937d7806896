-- What is found for each of a list: nothing, one more, all of them.
use Rattle.std.proofs.Common.{◌≡◌, ℕ, ◌+◌, ◌≤◌, List, [], ◌∷◌, ◌++◌, length, take, Some, sym, subst, inl, inr}
use Rattle.std.specs.List.{slice_get}
use Rattle.std.proofs.lemmas.List.{take_all}
use Rattle.std.proofs.lemmas.List.Elements.{Contains-append_left, Contains-push, Contains-push_cases}
use Rattle.list_laws.proofs.Members.{contains_none}
use Rattle.list_laws.proofs.Places.{before_there, last_or_before, last_there}
use Rattle.node_ways.specs.Parts.{AddsFound, AreFound}

-- ---- for one

pub pushed : {X : Type 0} (Is : X → Type 0) (Has : Type 0) (old : List X) (x : X) → Is x → AddsFound Is Has old (old ++ x ∷ [])
pushed {X} Is Has old x is = record {
  only = λ y there. elim (Contains-push_cases old x y there) [ inl before ↦ inl before | inr same ↦ inr (subst Is same is) ];
  kept = λ y there. Contains-append_left old (x ∷ []) y there;
  some = λ has. (x, Contains-push old x, is);
}

pub nothing_more : {X : Type 0} (Is : X → Type 0) (Has : Type 0) (old : List X) → (Has → ⊥) → AddsFound Is Has old old
nothing_more Is Has old none = record { only = λ y there. inl there; kept = λ y there. there; some = λ has. absurd (none has) }

-- ---- for a list

module _ {X Y : Type 0} (Is : Y → X → Type 0) (Has : Y → Type 0) (ys : List Y) where
  pub found_more : (i : ℕ) (y : Y) → slice_get ys i ≡ Some y → (old new : List X) → AreFound Is Has (take i ys) old → AddsFound (Is y) (Has y) old new
      → AreFound Is Has (take (i + 1) ys) new
  found_more i y at old new found adds = record {
    only = λ x there. elim (adds.only x there) [
      | inl before ↦ let (z, among, is) = found.only x before in (z, before_there ys i y at z among, is)
      | inr is ↦ (y, last_there ys i y at, is)
    ];
    all = λ z among has. elim (last_or_before ys i y at z among) [
      | inl before ↦ let (x, there, is) = found.all z before has in (x, adds.kept x there, is)
      | inr same ↦ let (x, there, is) = adds.some (subst Has (sym same) has) in (x, there, subst (λ (w : Y). Is w x) same is)
    ];
  }

  pub found_all : (i : ℕ) → length ys ≤ i → (found : List X) → AreFound Is Has (take i ys) found → AreFound Is Has ys found
  found_all i l found are = subst (λ (front : List Y). AreFound Is Has front found) (take_all i ys l) are

pub found_none : {X Y : Type 0} (Is : Y → X → Type 0) (Has : Y → Type 0) → AreFound Is Has [] []
found_none Is Has = record { only = λ x there. absurd (contains_none x there); all = λ y among has. absurd (contains_none y among) }
