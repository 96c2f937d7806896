-- Public contracts rest on this module.
-- The methods of the programs with calls, as nodes. The classes have the numbers 0 to 8: Closing, Door, Gate, Main, Exception,
-- Object, String, Throwable and House. The methods have the numbers 0 and 1 in Closing, 2 in Door, 3 in Gate, 4 and 5 in Main, 6 in
-- Object, and from 7 on in the house; its field has the number 0.
use Rattle.std.specs.Prelude.{codes, ℕ, List, [], ◌∷◌, Option, None, Some}
use Rattle.jvm_model.specs.Code.{CodeBody}
use Rattle.jvm_model.specs.Soundness.{plain_descriptor}
use Rattle.op_model.specs.declared.lowered.LoweredMethod.{LoweredMethod}
use Rattle.op_model.specs.declared.node.Node.{Node}
use Rattle.op_model.specs.declared.op.CallKind.TheVariants.{Virtual, Special, Static, Interface}
use Rattle.op_model.specs.declared.op.Op.TheVariants.{Assign, LoadStatic, NewArray, Call}
use Rattle.op_model.specs.Supplies.{Given}
use Rattle.machine_bytecode.specs.States.{State}
use Rattle.example_machine.specs.Calling.{runs}
use Rattle.example_nodes.specs.Lowering.{node, with_trigger, with_handlers, catching, lowered, given_by, site_in, copy_of, class_no, field_no, method_no, call_of}
use Rattle.example_nodes.specs.Taking.{TakesNode}
use Rattle.example_nodes.specs.Within.{pops, pushes_number, returns}

-- ---- instructions

-- The gate of the house is read.
abbrev pub reads_gate : (offset slot next : ℕ) → Node
reads_gate offset slot next = with_trigger 8 (node offset (LoadStatic (field_no 1) slot) (next ∷ []))

-- A static method of the house is called.
abbrev pub calls_house : (offset number : ℕ) → (name descriptor : List ℕ) → (arguments : List (Option ℕ)) → (result : Option ℕ) → (next : ℕ) → Node
calls_house offset number name descriptor arguments result next =
    with_trigger 8 (node offset (Call (call_of Static number (Some (method_no number)) name descriptor arguments result)) (next ∷ []))

-- ---- methods beside main

-- One without parameters but its receiver, which only returns.
abbrev pub returns_only : ℕ → LoweredMethod
returns_only number = lowered number 1 0 1 (returns 0 ∷ [])  -- return

-- close of a gate
abbrev pub gate_close_nodes : LoweredMethod
gate_close_nodes = lowered 3 1 1 1 (
    node 0 (Assign (copy_of 0 1 ∷ [])) (1 ∷ [])  -- aload_0
    ∷ node 1 (Call (call_of Special 2 (Some (method_no 2)) (codes "close") plain_descriptor (Some 1 ∷ []) None)) (4 ∷ [])  -- invokespecial Door.close
    ∷ returns 4  -- return
    ∷ [])

-- same of Main
abbrev pub same_nodes : LoweredMethod
same_nodes = lowered 5 1 1 1 (
    pushes_number 0 1 1  -- iload_0
    ∷ returns 1  -- ireturn
    ∷ [])

-- Besides main these are given: those with code.
abbrev pub given_with : LoweredMethod → Given
given_with m = given_by (returns_only 1 ∷ returns_only 2 ∷ gate_close_nodes ∷ m ∷ same_nodes ∷ [])

-- `main` of a code, as nodes, takes a step of a kind.
abbrev pub Steps : CodeBody → LoweredMethod → (State → State → Type 0) → Type 0
Steps k m Kind = TakesNode (runs k) (given_with m) Kind

-- ---- main

abbrev pub calls_same_nodes : LoweredMethod
calls_same_nodes = lowered 4 0 1 0 (
    pushes_number 0 0 1  -- iconst_1
    ∷ with_trigger 3 (node 1 (Call (call_of Static 5 (Some (method_no 5)) (codes "same") (codes "(I)I") (None ∷ []) None)) (4 ∷ []))  -- invokestatic Main.same
    ∷ pops 4 0 5  -- pop
    ∷ returns 5  -- return
    ∷ [])

abbrev pub closes_nodes : LoweredMethod
closes_nodes = lowered 4 0 1 0 (
    reads_gate 0 0 3  -- getstatic House.gate
    ∷ node 3 (Call (call_of Virtual 2 None (codes "close") plain_descriptor (Some 0 ∷ []) None)) (6 ∷ [])  -- invokevirtual Door.close
    ∷ reads_gate 6 0 9  -- getstatic House.gate
    ∷ node 9 (Call (call_of Virtual 2 None (codes "close") plain_descriptor (Some 0 ∷ []) None)) (12 ∷ [])  -- invokevirtual Door.close
    ∷ returns 12  -- return
    ∷ [])

abbrev pub shuts_nodes : LoweredMethod
shuts_nodes = lowered 4 0 1 0 (
    reads_gate 0 0 3  -- getstatic House.gate
    ∷ node 3 (Call (call_of Interface 1 None (codes "shut") plain_descriptor (Some 0 ∷ []) None)) (8 ∷ [])  -- invokeinterface Closing.shut
    ∷ returns 8  -- return
    ∷ [])

abbrev pub hashes_nodes : LoweredMethod
hashes_nodes = lowered 4 0 1 0 (
    pushes_number 0 0 1  -- iconst_1
    ∷ node 1 (NewArray (site_in 4 1 (codes "[I") ∷ []) 0) (3 ∷ [])  -- newarray int
    ∷ node 3 (Call (call_of Virtual 6 None (codes "hashCode") (codes "()I") (Some 0 ∷ []) None)) (6 ∷ [])  -- invokevirtual Object.hashCode
    ∷ pops 6 0 7  -- pop
    ∷ returns 7  -- return
    ∷ [])

abbrev pub rings_nodes : LoweredMethod
rings_nodes = lowered 4 0 0 0 (
    calls_house 0 9 (codes "ring") plain_descriptor [] None 3  -- invokestatic House.ring
    ∷ returns 3  -- return
    ∷ [])

abbrev pub keeps_nodes : LoweredMethod
keeps_nodes = lowered 4 0 1 0 (
    reads_gate 0 0 3  -- getstatic House.gate
    ∷ calls_house 3 13 (codes "put") (codes "(LDoor;)V") (Some 0 ∷ []) None 6  -- invokestatic House.put
    ∷ calls_house 6 14 (codes "take") (codes "()LDoor;") [] (Some 0) 9  -- invokestatic House.take
    ∷ pops 9 0 10  -- pop
    ∷ returns 10  -- return
    ∷ [])

-- What the call throws is caught.
abbrev pub fails_nodes : LoweredMethod
fails_nodes = lowered 4 0 1 0 (
    with_handlers (catching 4 (Some (class_no 4)) ∷ []) (calls_house 0 15 (codes "fail") plain_descriptor [] None 3)  -- invokestatic House.fail
    ∷ returns 3  -- return
    ∷ pops 4 0 5  -- pop
    ∷ returns 5  -- return
    ∷ [])

abbrev pub closes_by_interface_nodes : LoweredMethod
closes_by_interface_nodes = lowered 4 0 1 0 (
    reads_gate 0 0 3  -- getstatic House.gate
    ∷ node 3 (Call (call_of Interface 0 None (codes "close") plain_descriptor (Some 0 ∷ []) None)) (8 ∷ [])  -- invokeinterface Closing.close
    ∷ returns 8  -- return
    ∷ [])

abbrev pub counts_nodes : LoweredMethod
counts_nodes = lowered 4 0 1 0 (
    calls_house 0 8 (codes "count") (codes "()I") [] None 3  -- invokestatic House.count
    ∷ pops 3 0 4  -- pop
    ∷ returns 4  -- return
    ∷ [])

abbrev pub gets_none_nodes : LoweredMethod
gets_none_nodes = lowered 4 0 1 0 (
    calls_house 0 10 (codes "none") (codes "()LDoor;") [] (Some 0) 3  -- invokestatic House.none
    ∷ pops 3 0 4  -- pop
    ∷ returns 4  -- return
    ∷ [])

abbrev pub gets_same_nodes : LoweredMethod
gets_same_nodes = lowered 4 0 1 0 (
    reads_gate 0 0 3  -- getstatic House.gate
    ∷ calls_house 3 11 (codes "same") (codes "(LDoor;)LDoor;") (Some 0 ∷ []) (Some 0) 6  -- invokestatic House.same
    ∷ pops 6 0 7  -- pop
    ∷ returns 7  -- return
    ∷ [])

abbrev pub gets_fresh_nodes : LoweredMethod
gets_fresh_nodes = lowered 4 0 1 0 (
    calls_house 0 12 (codes "fresh") (codes "()LDoor;") [] (Some 0) 3  -- invokestatic House.fresh
    ∷ pops 3 0 4  -- pop
    ∷ returns 4  -- return
    ∷ [])
