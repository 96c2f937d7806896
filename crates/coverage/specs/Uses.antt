-- Public contracts rest on this module.
-- What more a covering set says of each state: of static fields that are loaded, of calls, and of what is about to be returned.
use Rattle.std.specs.Prelude.{◌≡◌, ℕ, List, Option, Some, slice_get, Contains}
use Rattle.jvm_model.specs.declared.number.FieldNo.{FieldNo}
use Rattle.jvm_model.specs.declared.number.MethodNo.{MethodNo}
use Rattle.jvm_model.specs.Programs.{Method}
use Rattle.op_model.specs.declared.lowered.LoweredMethod.{LoweredMethod}
use Rattle.op_model.specs.declared.node.Node.{Node}
use Rattle.op_model.specs.declared.op.Op.TheVariants.{LoadStatic, Return}
use Rattle.op_model.specs.Supplies.{Given, GivenAs}
use Rattle.machine_bytecode.specs.Objects.{Subject}
use Rattle.machine_bytecode.specs.States.{State}
use Rattle.machine_nodes.specs.NodeExecutions.{IsNodeExecution}
use Rattle.machine_nodes.specs.NodeSteps.{AtNode, Calls}
use Rattle.machine_nodes.specs.Slots.{returned_value}
use Rattle.points_to_rules.specs.Facts.{static_field, returned_by, Fact, may_run, may_call}
use Rattle.points_to_rules.specs.Rules.{IsNodeOf}
use Rattle.coverage.specs.References.{IsCovered}
use Rattle.coverage.specs.Covering.{MayHold, StandsIn, node_at}

-- A static field that a method loads which may run is covered without exception; the method that a call goes to is one of its targets, whether it
-- is given as nodes or described; and the value of a return is one that the method returns.
pub record Informs (x : Subject) (given : Given) (gives : GivenAs) (S : Fact → Type 0) (s : State) : Type 0 where
  pub loaded : (m : MethodNo) (l : LoweredMethod) (n : Node) (field : FieldNo) (target : ℕ) → S (may_run m) → IsNodeOf gives m l n → n.op ≡ LoadStatic field target
      → IsCovered (MayHold S (static_field field)) s.world.heap (s.world.statics field.0)
  pub called : (at : AtNode x given s) (calls : Calls x given s at) (target : Method) → slice_get x.program.methods calls.target ≡ Some target
      → S (may_call (node_at at.frame) (record { 0 = calls.target }))
  pub returned : (at : AtNode x given s) (m : MethodNo) (l : LoweredMethod) (value : Option ℕ) → StandsIn gives at.frame m l at.now.node → at.now.node.op ≡ Return value
      → IsCovered (MayHold S (returned_by m)) s.world.heap (returned_value value at.frame.slots)

-- It says so of each state of each execution.
abbrev pub InformsAll : Subject → Given → GivenAs → (Fact → Type 0) → Type 0
InformsAll x given gives S = (states : List State) → IsNodeExecution x given states → (s : State) → Contains states s → Informs x given gives S s
