-- Public contracts rest on this module.
-- The methods of the programs that throw, as nodes. The classes have the numbers 0 to 6: Main, Error, Exception, Object, String,
-- Throwable and Alarm; the methods of Main the numbers 0 to 2; and the field of the alarm the number 0.
use Rattle.std.specs.Prelude.{codes, ℕ, List, [], ◌∷◌, None, Some}
use Rattle.jvm_model.specs.Code.{CodeBody}
use Rattle.jvm_model.specs.Soundness.{plain_descriptor}
use Rattle.op_model.specs.declared.lowered.LoweredMethod.{LoweredMethod}
use Rattle.op_model.specs.declared.node.Node.{Node}
use Rattle.op_model.specs.declared.op.CallKind.TheVariants.{Static}
use Rattle.op_model.specs.declared.op.Op.TheVariants.{LoadStatic, Call, Throw}
use Rattle.op_model.specs.Supplies.{Given}
use Rattle.machine_bytecode.specs.States.{State}
use Rattle.example_machine.specs.Excepting.{runs}
use Rattle.example_nodes.specs.Lowering.{node, with_trigger, with_handlers, catching, lowered, given_by, class_no, field_no, method_no, call_of}
use Rattle.example_nodes.specs.Taking.{TakesNode}
use Rattle.example_nodes.specs.Within.{pops, returns}

-- ---- instructions

-- The exception of the alarm is read.
abbrev pub reads_fire : (offset slot next : ℕ) → Node
reads_fire offset slot next = with_trigger 6 (node offset (LoadStatic (field_no 0) slot) (next ∷ []))

-- A static method of Main is called.
abbrev pub calls_main : (offset number : ℕ) → (name : List ℕ) → (next : ℕ) → Node
calls_main offset number name next = with_trigger 0 (node offset (Call (call_of Static number (Some (method_no number)) name plain_descriptor [] None)) (next ∷ []))

abbrev pub throws : (offset slot : ℕ) → Node
throws offset slot = node offset (Throw slot) []

-- ---- methods beside main

-- It catches errors alone.
abbrev pub middle_nodes : LoweredMethod
middle_nodes = lowered 1 0 1 0 (
    with_handlers (catching 4 (Some (class_no 1)) ∷ []) (calls_main 0 2 (codes "inner") 3)  -- invokestatic Main.inner
    ∷ returns 3  -- return
    ∷ pops 4 0 5  -- pop
    ∷ returns 5  -- return
    ∷ [])

abbrev pub inner_nodes : LoweredMethod
inner_nodes = lowered 2 0 1 0 (
    reads_fire 0 0 3  -- getstatic Alarm.fire
    ∷ throws 3 0  -- athrow
    ∷ [])

abbrev pub given_with : LoweredMethod → Given
given_with m = given_by (m ∷ middle_nodes ∷ inner_nodes ∷ [])

-- `main` of a code, as nodes, takes a step of a kind.
abbrev pub Steps : CodeBody → LoweredMethod → (State → State → Type 0) → Type 0
Steps k m Kind = TakesNode (runs k) (given_with m) Kind

-- ---- main

abbrev pub catches_here_nodes : LoweredMethod
catches_here_nodes = lowered 0 0 1 0 (
    with_handlers (catching 4 (Some (class_no 1)) ∷ catching 4 (Some (class_no 2)) ∷ []) (reads_fire 0 0 3)  -- getstatic Alarm.fire
    ∷ with_handlers (catching 4 (Some (class_no 1)) ∷ catching 4 (Some (class_no 2)) ∷ []) (throws 3 0)  -- athrow
    ∷ pops 4 0 5  -- pop
    ∷ returns 5  -- return
    ∷ [])

abbrev pub catches_above_nodes : LoweredMethod
catches_above_nodes = lowered 0 0 1 0 (
    with_handlers (catching 4 (Some (class_no 2)) ∷ []) (calls_main 0 1 (codes "middle") 3)  -- invokestatic Main.middle
    ∷ returns 3  -- return
    ∷ pops 4 0 5  -- pop
    ∷ returns 5  -- return
    ∷ [])

abbrev pub catches_nothing_nodes : LoweredMethod
catches_nothing_nodes = lowered 0 0 1 0 (
    reads_fire 0 0 3  -- getstatic Alarm.fire
    ∷ throws 3 0  -- athrow
    ∷ [])
