-- Public contracts rest on this module.
-- A program in which a method of the folder gives a reference back: `main` of the class Main calls `find`, which gives the gate of the
-- house. The other classes are those of the programs with calls, and the numbers too.
use Rattle.std.specs.Prelude.{codes, List, [], ◌∷◌, Some}
use Rattle.jvm_model.specs.declared.class_file.ClassFile.{ClassFile}
use Rattle.jvm_model.specs.declared.pool.PoolEntry.{PoolEntry}
use Rattle.jvm_model.specs.declared.pool.PoolEntry.TheVariants.{Utf8, Class, Fieldref, Methodref, NameAndType}
use Rattle.jvm_model.specs.Code.{CodeBody}
use Rattle.jvm_model.specs.Linking.{program_from}
use Rattle.jvm_model.specs.Programs.{Program, object_name}
use Rattle.jvm_model.specs.Soundness.{plain_descriptor}
use Rattle.op_model.specs.declared.lowered.LoweredMethod.{LoweredMethod}
use Rattle.op_model.specs.declared.op.CallKind.TheVariants.{Static}
use Rattle.op_model.specs.declared.op.Op.TheVariants.{LoadStatic, Call, Return}
use Rattle.op_model.specs.Supplies.{Given}
use Rattle.machine_bytecode.specs.Objects.{Subject, string_name}
use Rattle.example_machine.specs.Building.{code, pool_of, method, class_with, in_folder, library_class, run_of}
use Rattle.example_machine.specs.Calling.{closing_class, door_class, gate_class, house, object}
use Rattle.example_nodes.specs.Calling.{reads_gate, returns_only, gate_close_nodes}
use Rattle.example_nodes.specs.Lowering.{node, with_trigger, lowered, given_by, field_no, method_no, call_of}
use Rattle.example_nodes.specs.Within.{pops, returns}

abbrev pub main_pool : List PoolEntry
main_pool = pool_of (codes "Main") object_name (
    Utf8 (codes "main")  -- 6
    ∷ Utf8 plain_descriptor  -- 7
    ∷ Utf8 (codes "find")  -- 8
    ∷ Utf8 (codes "()LDoor;")  -- 9
    ∷ NameAndType 8 9  -- 10
    ∷ Methodref 3 10  -- 11: Main.find
    ∷ Utf8 (codes "lib/House")  -- 12
    ∷ Class 12  -- 13
    ∷ Utf8 (codes "gate")  -- 14
    ∷ Utf8 (codes "LDoor;")  -- 15
    ∷ NameAndType 14 15  -- 16
    ∷ Fieldref 13 16  -- 17: House.gate, static
    ∷ [])

abbrev pub finds : CodeBody
finds = code 1 0 (
    184 ∷ 0 ∷ 11  -- 0: invokestatic Main.find
    ∷ 87  -- 3: pop
    ∷ 177  -- 4: return
    ∷ []) []

abbrev pub find_gate : CodeBody
find_gate = code 1 0 (
    178 ∷ 0 ∷ 17  -- 0: getstatic House.gate
    ∷ 176  -- 3: areturn
    ∷ []) []

abbrev pub main_class : ClassFile
main_class = class_with main_pool 0x21 [] [] (method 9 6 7 finds ∷ method 9 8 9 find_gate ∷ [])

abbrev pub finding : Program
finding = program_from (
    in_folder (codes "Closing.class") closing_class
    ∷ in_folder (codes "Door.class") door_class
    ∷ in_folder (codes "Gate.class") gate_class
    ∷ in_folder (codes "Main.class") main_class
    ∷ library_class (codes "java/lang/Exception") (codes "java/lang/Throwable")
    ∷ object
    ∷ library_class string_name object_name
    ∷ library_class (codes "java/lang/Throwable") object_name
    ∷ house
    ∷ [])

abbrev pub runs : Subject
runs = run_of finding 4 (codes "Door")

-- ---- as nodes

abbrev pub finds_nodes : LoweredMethod
finds_nodes = lowered 4 0 1 0 (
    with_trigger 3 (node 0 (Call (call_of Static 5 (Some (method_no 5)) (codes "find") (codes "()LDoor;") [] (Some 0))) (3 ∷ []))  -- invokestatic Main.find
    ∷ pops 3 0 4  -- pop
    ∷ returns 4  -- return
    ∷ [])

abbrev pub find_gate_nodes : LoweredMethod
find_gate_nodes = lowered 5 0 1 0 (
    with_trigger 8 (node 0 (LoadStatic (field_no 0) 0) (3 ∷ []))  -- getstatic House.gate
    ∷ node 3 (Return (Some 0)) []  -- areturn
    ∷ [])

abbrev pub given : Given
given = given_by (returns_only 1 ∷ returns_only 2 ∷ gate_close_nodes ∷ finds_nodes ∷ find_gate_nodes ∷ [])
