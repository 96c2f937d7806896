-- Public contracts rest on this module.
-- Programs within one method that raise, in which the classes of the exceptions are there: nodes throw new objects of the program's
-- classes alone. After the classes 0 to 3, which are those of the other programs, the numbers from 4 on are those of
-- ArithmeticException, ArrayIndexOutOfBoundsException, ArrayStoreException, ClassCastException, NegativeArraySizeException,
-- NullPointerException and Throwable. Another program, with a call on null, has NullPointerException as its class 7.
use Rattle.std.specs.Prelude.{codes, [], ◌∷◌, None, Some}
use Rattle.jvm_model.specs.Code.{CodeBody}
use Rattle.jvm_model.specs.Linking.{program_from}
use Rattle.jvm_model.specs.Programs.{Program, object_name}
use Rattle.op_model.specs.declared.lowered.LoweredMethod.{LoweredMethod}
use Rattle.op_model.specs.declared.op.CallKind.TheVariants.{Virtual}
use Rattle.op_model.specs.declared.op.Op.TheVariants.{Assign, Load, StoreElement, NewArray, Call, Throw, Cast, Probe}
use Rattle.op_model.specs.Supplies.{Given}
use Rattle.machine_bytecode.specs.Objects.{Subject, string_name}
use Rattle.machine_bytecode.specs.States.{State}
use Rattle.example_machine.specs.Building.{in_folder, library_class, run_of}
use Rattle.example_machine.specs.Calling.{object}
use Rattle.example_machine.specs.Excepting.{main_class as throwing_class, alarm}
use Rattle.example_machine.specs.Within.{main_class, box}
use Rattle.example_nodes.specs.Excepting.{middle_nodes, reads_fire, throws}
use Rattle.example_nodes.specs.Lowering.{given_by, node, with_throws, lowered, site_in, primitive_in, class_no, field_no, call_of}
use Rattle.example_nodes.specs.Taking.{TakesNode}
use Rattle.example_nodes.specs.Within.{given_main, reads_it, pops, pushes_number, pushes_null, returns}

abbrev pub program_with : CodeBody → Program
program_with k = program_from (
    in_folder (codes "Main.class") (main_class 7 k)
    ∷ library_class object_name []
    ∷ library_class string_name object_name
    ∷ box
    ∷ library_class (codes "java/lang/ArithmeticException") (codes "java/lang/Throwable")
    ∷ library_class (codes "java/lang/ArrayIndexOutOfBoundsException") (codes "java/lang/Throwable")
    ∷ library_class (codes "java/lang/ArrayStoreException") (codes "java/lang/Throwable")
    ∷ library_class (codes "java/lang/ClassCastException") (codes "java/lang/Throwable")
    ∷ library_class (codes "java/lang/NegativeArraySizeException") (codes "java/lang/Throwable")
    ∷ library_class (codes "java/lang/NullPointerException") (codes "java/lang/Throwable")
    ∷ library_class (codes "java/lang/Throwable") object_name
    ∷ [])

abbrev pub runs : CodeBody → Subject
runs k = run_of (program_with k) 0 (codes "lib/Box")

-- `main` of a code, as nodes, takes a step of a kind.
abbrev pub Steps : CodeBody → LoweredMethod → (State → State → Type 0) → Type 0
Steps k m Kind = TakesNode (runs k) (given_main m) Kind

-- A box is stored into an array of strings.
abbrev pub misfit_nodes : LoweredMethod
misfit_nodes = lowered 0 0 3 0 (
    pushes_number 0 0 1  -- iconst_1
    ∷ with_throws (class_no 8 ∷ []) (node 1 (NewArray (site_in 0 1 (codes "[Ljava/lang/String;") ∷ []) 0) (4 ∷ []))  -- anewarray String
    ∷ pushes_number 4 1 5  -- iconst_0
    ∷ reads_it 5 2 8  -- getstatic Box.it
    ∷ with_throws (class_no 5 ∷ class_no 6 ∷ class_no 9 ∷ []) (node 8 (StoreElement 0 2) (9 ∷ []))  -- aastore
    ∷ returns 9  -- return
    ∷ [])

abbrev pub null_throw_nodes : LoweredMethod
null_throw_nodes = lowered 0 0 1 0 (
    pushes_null 0 0 1  -- aconst_null
    ∷ with_throws (class_no 9 ∷ []) (node 1 (Throw 0) [])  -- athrow
    ∷ [])

abbrev pub division_nodes : LoweredMethod
division_nodes = lowered 0 0 2 0 (
    pushes_number 0 0 1  -- iconst_1
    ∷ pushes_number 1 1 2  -- iconst_0
    ∷ with_throws (class_no 4 ∷ []) (node 2 (Assign (primitive_in 0 ∷ primitive_in 1 ∷ [])) (3 ∷ []))  -- idiv
    ∷ pops 3 0 4  -- pop
    ∷ returns 4  -- return
    ∷ [])

-- A box is cast to a string.
abbrev pub string_cast_nodes : LoweredMethod
string_cast_nodes = lowered 0 0 1 0 (
    reads_it 0 0 3  -- getstatic Box.it
    ∷ with_throws (class_no 7 ∷ []) (node 3 (Cast string_name 0) (6 ∷ []))  -- checkcast String
    ∷ pops 6 0 7  -- pop
    ∷ returns 7  -- return
    ∷ [])

abbrev pub first_number_nodes : LoweredMethod
first_number_nodes = lowered 0 0 2 0 (
    pushes_number 0 0 1  -- iconst_1
    ∷ with_throws (class_no 8 ∷ []) (node 1 (NewArray (site_in 0 1 (codes "[I") ∷ []) 0) (3 ∷ []))  -- newarray int
    ∷ pushes_number 3 1 4  -- iconst_0
    ∷ with_throws (class_no 5 ∷ class_no 9 ∷ []) (node 4 (Probe 0) (5 ∷ []))  -- iaload
    ∷ pops 5 0 6  -- pop
    ∷ returns 6  -- return
    ∷ [])

abbrev pub null_field_nodes : LoweredMethod
null_field_nodes = lowered 0 0 1 0 (
    pushes_null 0 0 1  -- aconst_null
    ∷ with_throws (class_no 9 ∷ []) (node 1 (Load 0 (field_no 2) 0) (4 ∷ []))  -- getfield Box.next
    ∷ pops 4 0 5  -- pop
    ∷ returns 5  -- return
    ∷ [])

-- ---- a call on null

abbrev pub program_with_call : CodeBody → Program
program_with_call k = program_from (
    in_folder (codes "Main.class") (throwing_class k)
    ∷ library_class (codes "java/lang/Error") (codes "java/lang/Throwable")
    ∷ library_class (codes "java/lang/Exception") (codes "java/lang/Throwable")
    ∷ object
    ∷ library_class string_name object_name
    ∷ library_class (codes "java/lang/Throwable") object_name
    ∷ alarm
    ∷ library_class (codes "java/lang/NullPointerException") (codes "java/lang/Throwable")
    ∷ [])

abbrev pub runs_call : CodeBody → Subject
runs_call k = run_of (program_with_call k) 0 (codes "lib/Alarm")

abbrev pub calls_null_nodes : LoweredMethod
calls_null_nodes = lowered 0 0 1 0 (
    pushes_null 0 0 1  -- aconst_null
    ∷ with_throws (class_no 7 ∷ []) (node 1 (Call (call_of Virtual 3 None (codes "hashCode") (codes "()I") (Some 0 ∷ []) None)) (4 ∷ []))  -- invokevirtual Object.hashCode
    ∷ pops 4 0 5  -- pop
    ∷ returns 5  -- return
    ∷ [])

-- Of the other methods one throws an object, for which it lists that class too.
abbrev pub inner_nodes : LoweredMethod
inner_nodes = lowered 2 0 1 0 (
    reads_fire 0 0 3  -- getstatic Alarm.fire
    ∷ with_throws (class_no 7 ∷ []) (throws 3 0)  -- athrow
    ∷ [])

abbrev pub given_call : Given
given_call = given_by (calls_null_nodes ∷ middle_nodes ∷ inner_nodes ∷ [])
