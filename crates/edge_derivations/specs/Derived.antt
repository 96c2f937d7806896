-- Public contracts rest on this module.
-- The derivation of one fact, cut out of a list that has a reason for each of its facts: by places.
use Rattle.std.specs.Prelude.{◌≡◌, ◌↔◌, ◌<◌, ℕ, List, [], ◌∷◌, ◌++◌, Some, slice_get, Contains}

-- The last place is needed, and so is each smaller place that the reason of a needed one names.
pub data IsNeeded (reasons : List (List ℕ)) (last : ℕ) : ℕ → Type 0 where
  at_last : IsNeeded reasons last last
  by_reason : (place : ℕ) (reason : List ℕ) (named : ℕ) → IsNeeded reasons last place → slice_get reasons place ≡ Some reason → Contains reason named → named < place → IsNeeded reasons last named

-- Each place is smaller than all behind it.
pub record IsAscending (places : List ℕ) : Type 0 where
  pub below : (i j x y : ℕ) → i < j → slice_get places i ≡ Some x → slice_get places j ≡ Some y → x < y

-- The places that are needed, and no others, in their order. The last one stands at the end.
pub record IsCutFor (reasons : List (List ℕ)) (last : ℕ) (places : List ℕ) : Type 0 where
  pub ascending : IsAscending places
  pub those : (place : ℕ) → Contains places place ↔ IsNeeded reasons last place
  pub ends : (before : List ℕ) × (places ≡ before ++ last ∷ [])
