-- Only the proofs of this crate rest on this module.
-- A walk over all that is above a class.
use Rattle.std.specs.Prelude.{◌≡◌, ℕ, ◌<◌, true, List, Some, All, slice_get}
use Rattle.program_index.specs.declared.parents.Parents.{Parents}
use Rattle.program_index.specs.Supertypes.{IsDirect, IsAbove}
use Rattle.program_index.specs.ClassSets.{has}

-- What was walked is above the class. It has the direct supertypes of the class, and those of its own first classes.
pub record IsWalk (g : List Parents) (class : ℕ) (walked : List ℕ) (done : ℕ) : Type 0 where
  pub above : All (IsAbove g class) walked
  pub start : (y : ℕ) → IsDirect g class y → has walked y ≡ true
  pub closed : (k x y : ℕ) → k < done → slice_get walked k ≡ Some x → IsDirect g x y → has walked y ≡ true
