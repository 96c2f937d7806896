-- Public contracts rest on this module.
-- Two slots of one variable have one value.
use Rattle.std.specs.Prelude.{◌≡◌, ℕ, List, ◌∷◌, Some, Ok, Contains}
use Rattle.op_model.specs.declared.lowered.LoweredMethod.{LoweredMethod}
use Rattle.op_model.specs.declared.node.Node.{Node}
use Rattle.op_model.specs.Supplies.{Given}
use Rattle.machine_bytecode.specs.Objects.{Subject}
use Rattle.machine_bytecode.specs.States.{Frame, State, running, slot_at}
use Rattle.machine_nodes.specs.NodeExecutions.{IsNodeExecution}
use Rattle.slot_names.specs.declared.variable.Variable.{Variable}
use Rattle.slot_names.specs.Variables.{AreReachedNodes, IsVariable}

-- Each method that is given has nodes that are all reached.
abbrev pub AreReachedMethods : Given → Type 0
AreReachedMethods given = (number : ℕ) (l : LoweredMethod) → given number ≡ Some (Ok l) → AreReachedNodes l

-- Any two slots of one variable at the node of a frame read alike.
abbrev pub ReadsAlike : Given → Frame → Type 0
ReadsAlike given f =
    (number : ℕ) (l : LoweredMethod) (n : Node) (y z : ℕ) (v : Variable) → f.method ≡ Some number → given number ≡ Some (Ok l)
    → Contains l.nodes n → n.offset ≡ f.offset → IsVariable l n y v → IsVariable l n z v → slot_at f.slots y ≡ slot_at f.slots z

-- The newest frame of each state that runs.
abbrev pub VariablesHaveValues : Subject → Given → Type 0
VariablesHaveValues x given =
    (states : List State) → IsNodeExecution x given states → (s : State) → Contains states s → s.mode ≡ running
    → (f : Frame) (below : List Frame) → s.frames ≡ f ∷ below → ReadsAlike given f
