-- Public contracts rest on this module.
-- Marks by number.
use Rattle.std.specs.Prelude.{◌≡◌, ◌⊎◌, ℕ, Bool, true, List, Some, slice_get}

-- The same numbers are marked.
pub record AreSameMarks (old new : List Bool) : Type 0 where
  pub kept : (x : ℕ) → slice_get old x ≡ Some true → slice_get new x ≡ Some true
  pub only : (x : ℕ) → slice_get new x ≡ Some true → slice_get old x ≡ Some true

-- One more is.
pub record IsMarked (old new : List Bool) (number : ℕ) : Type 0 where
  pub there : slice_get new number ≡ Some true
  pub kept : (x : ℕ) → slice_get old x ≡ Some true → slice_get new x ≡ Some true
  pub only : (x : ℕ) → slice_get new x ≡ Some true → (slice_get old x ≡ Some true) ⊎ (x ≡ number)
