-- Public contracts rest on this module.
-- The calls that are numbered for a method.
use Rattle.std.specs.Prelude.{◌≡◌, ◌≤◌, ◌⊎◌, ℕ, List, length, Some, slice_get}
use Rattle.op_model.specs.declared.lowered.LoweredMethod.{LoweredMethod}
use Rattle.points_to_constraints.specs.Items.{CallSite}
use Rattle.points_to_constraints.specs.NodeItems.{IsCallOf}

-- The number is that of a new call, which was not there before.
pub record IsNewCall (old new : List CallSite) (number : ℕ) (site : CallSite) : Type 0 where
  pub stands : slice_get new number ≡ Some site
  pub fresh : length old ≤ number

-- Each call that is numbered was numbered before, or is the call of a node of the method; and each node has one new call at most.
pub record AddsCalls (l : LoweredMethod) (old new : List CallSite) : Type 0 where
  pub only : (number : ℕ) (site : CallSite) → slice_get new number ≡ Some site → (slice_get old number ≡ Some site) ⊎ IsCallOf l site
  pub apart : (i j : ℕ) (a b : CallSite) → IsNewCall old new i a → IsNewCall old new j b → a.at ≡ b.at → i ≡ j
