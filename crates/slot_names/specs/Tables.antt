-- Public contracts rest on this module.
-- The variables of all slots of a method, as they are kept.
use Rattle.std.specs.Prelude.{◌≡◌, ◌↔◌, ℕ, Bool, length, Some, slice_get, IsTrue}
use Rattle.op_model.specs.declared.lowered.LoweredMethod.{LoweredMethod}
use Rattle.op_model.specs.declared.node.Node.{Node}
use Rattle.slot_names.specs.declared.variable.Variable.{Variable}
use Rattle.slot_names.specs.Variables.{IsMerge, IsVariable}

-- How many nodes there are, the variable of each slot at the node of each place, and whether that node is a merge point.
pub record NameTable : Type 0 where
  pub count : ℕ
  pub variable : ℕ → ℕ → Variable
  pub merges : ℕ → Bool

-- The table has the variables of the method.
pub record AreNames (l : LoweredMethod) (names : NameTable) : Type 0 where
  pub count : names.count ≡ length l.nodes
  pub each : (place z : ℕ) (n : Node) → slice_get l.nodes place ≡ Some n → IsVariable l n z (names.variable place z)
  pub merges : (place : ℕ) (n : Node) → slice_get l.nodes place ≡ Some n → (IsTrue (names.merges place) ↔ IsMerge l n)
