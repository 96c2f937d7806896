-- Public contracts rest on this module.
-- A list in which one thing has a number.
use Rattle.std.specs.Prelude.{◌≡◌, ◌⊎◌, ℕ, List, Some, slice_get}
use Rattle.least_sets.specs.Rules.{IsWithoutDoubles}

-- The thing has the number in the new list, in which all else stands where it stood; and nothing stands twice.
pub record IsAdded {X : Type 0} (old new : List X) (x : X) (number : ℕ) : Type 0 where
  pub longer : (k : ℕ) (y : X) → slice_get old k ≡ Some y → slice_get new k ≡ Some y
  pub stands : slice_get new number ≡ Some x
  pub others : (k : ℕ) (y : X) → slice_get new k ≡ Some y → (slice_get old k ≡ Some y) ⊎ (y ≡ x)
  pub apart : IsWithoutDoubles new
