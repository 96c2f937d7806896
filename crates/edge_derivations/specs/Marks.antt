-- This crate's own proofs alone rest on this module.
-- Marks by place.
use Rattle.std.specs.Prelude.{◌≡◌, ◌↔◌, ◌⊎◌, ◌<◌, ◌≤◌, ℕ, Bool, true, List, Some, length, slice_get, Contains}
use Rattle.edge_derivations.specs.Derived.{IsAscending, IsNeeded}

-- The place is marked.
abbrev pub IsMarked : List Bool → ℕ → Type 0
IsMarked marks place = slice_get marks place ≡ Some true

-- What is named there is marked too, as far as it stands before the place.
pub record AreMarkedBefore (place : ℕ) (named : List ℕ) (old new : List Bool) : Type 0 where
  pub long : length new ≡ length old
  pub each : (k : ℕ) → IsMarked new k ↔ (IsMarked old k ⊎ (Contains named k × (k < place)))

-- Only needed places before the last one are marked. The last one is followed, and each marked one from this place on: what its reason names before it is marked.
pub record AreFollowed (reasons : List (List ℕ)) (last from : ℕ) (marks : List Bool) : Type 0 where
  pub long : length marks ≡ last
  pub needed : (k : ℕ) → IsMarked marks k → IsNeeded reasons last k
  pub named : (place : ℕ) (reason : List ℕ) → from ≤ place → ((place ≡ last) ⊎ IsMarked marks place) → slice_get reasons place ≡ Some reason
      → (k : ℕ) → Contains reason k → k < place → IsMarked marks k

-- Of the places before the last one, those are marked that are needed.
pub record AreNeeded (reasons : List (List ℕ)) (last : ℕ) (marks : List Bool) : Type 0 where
  pub long : length marks ≡ last
  pub each : (k : ℕ) → IsMarked marks k ↔ (IsNeeded reasons last k × (k < last))

-- These are the numbers below one that have P, in their order.
pub record AreListed (P : ℕ → Type 0) (end : ℕ) (numbers : List ℕ) : Type 0 where
  pub ascending : IsAscending numbers
  pub those : (k : ℕ) → Contains numbers k ↔ (P k × (k < end))
