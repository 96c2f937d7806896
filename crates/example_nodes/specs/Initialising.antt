-- Public contracts rest on this module.
-- The methods of the programs with initialisers, as nodes. The classes have the numbers 0 to 10: Broken, Late, Main, Ready, Steady,
-- Table, Exception, Object, String, Throwable and Alarm. The initialisers have the numbers 0 in Broken, 2 in Main, 3 in Ready and 5
-- in Steady, and `main` the number 1. Where an error of initialisation is to be thrown, the program has the classes of both, with the
-- numbers 11 and 12: nodes throw new objects of the program's classes alone.
use Rattle.std.specs.Prelude.{codes, ℕ, List, [], ◌∷◌, None, Some}
use Rattle.jvm_model.specs.declared.number.ClassNo.{ClassNo}
use Rattle.jvm_model.specs.Code.{CodeBody}
use Rattle.jvm_model.specs.Linking.{program_from}
use Rattle.jvm_model.specs.Programs.{Program, object_name}
use Rattle.jvm_model.specs.Soundness.{plain_descriptor}
use Rattle.op_model.specs.declared.lowered.LoweredMethod.{LoweredMethod}
use Rattle.op_model.specs.declared.node.Node.{Node}
use Rattle.op_model.specs.declared.op.CallKind.TheVariants.{Static}
use Rattle.op_model.specs.declared.op.Op.TheVariants.{Assign, LoadStatic, New, Call}
use Rattle.op_model.specs.Supplies.{Given}
use Rattle.machine_bytecode.specs.Objects.{Subject, string_name}
use Rattle.machine_bytecode.specs.States.{State}
use Rattle.example_machine.specs.Building.{in_folder, library_class, run_of}
use Rattle.example_machine.specs.Calling.{object}
use Rattle.example_machine.specs.Excepting.{alarm}
use Rattle.example_machine.specs.Initialising.{broken_class, late_class, main_class, ready_class, steady_class, table_class, runs, makes_ready, makes_broken}
use Rattle.example_nodes.specs.Excepting.{throws}
use Rattle.example_nodes.specs.Lowering.{node, with_trigger, with_throws, with_handlers, catching, lowered, given_by, site_in, primitive_in, class_no, field_no, method_no, call_of}
use Rattle.example_nodes.specs.Taking.{TakesNode, StartingNode}
use Rattle.example_nodes.specs.Within.{pops, returns}

-- ---- methods beside main

-- One that only returns.
abbrev pub initialiser_nodes : ℕ → LoweredMethod
initialiser_nodes number = lowered number 1 0 0 (returns 0 ∷ [])  -- return

-- The static method of Ready.
abbrev pub ready_go_nodes : LoweredMethod
ready_go_nodes = lowered 4 1 0 0 (returns 0 ∷ [])  -- return

-- The method of Steady that is not static.
abbrev pub steady_stand_nodes : LoweredMethod
steady_stand_nodes = lowered 6 1 0 1 (returns 0 ∷ [])  -- return

-- The initialiser of Broken.
abbrev pub breaks_nodes : LoweredMethod
breaks_nodes = lowered 0 0 1 0 (
    with_trigger 10 (node 0 (LoadStatic (field_no 1) 0) (3 ∷ []))  -- getstatic Alarm.fire
    ∷ throws 3 0  -- athrow
    ∷ [])

-- Besides main these are given: the other methods with code.
abbrev pub given_with : LoweredMethod → Given
given_with m = given_by (breaks_nodes ∷ m ∷ initialiser_nodes 2 ∷ initialiser_nodes 3 ∷ ready_go_nodes ∷ initialiser_nodes 5 ∷ steady_stand_nodes ∷ [])

-- ---- an initialiser that returns

abbrev pub makes_ready_nodes : LoweredMethod
makes_ready_nodes = lowered 1 0 1 0 (
    with_trigger 3 (node 0 (New (site_in 1 0 (codes "Ready")) 0) (3 ∷ []))  -- new Ready
    ∷ pops 3 0 4  -- pop
    ∷ returns 4  -- return
    ∷ [])

abbrev pub given_ready : Given
given_ready = given_with makes_ready_nodes

-- The program takes a step of a kind.
abbrev pub ReadySteps : (State → State → Type 0) → Type 0
ReadySteps Kind = TakesNode (runs makes_ready) given_ready Kind

-- ---- other triggers

-- Late has no initialiser of its own.
abbrev pub makes_late_nodes : LoweredMethod
makes_late_nodes = lowered 1 0 1 0 (
    with_trigger 1 (node 0 (New (site_in 1 0 (codes "Late")) 0) (3 ∷ []))  -- new Late
    ∷ pops 3 0 4  -- pop
    ∷ returns 4  -- return
    ∷ [])

-- The interface of Table has one.
abbrev pub makes_table_nodes : LoweredMethod
makes_table_nodes = lowered 1 0 1 0 (
    with_trigger 5 (node 0 (New (site_in 1 0 (codes "Table")) 0) (3 ∷ []))  -- new Table
    ∷ pops 3 0 4  -- pop
    ∷ returns 4  -- return
    ∷ [])

abbrev pub calls_ready_nodes : LoweredMethod
calls_ready_nodes = lowered 1 0 1 0 (
    with_trigger 3 (node 0 (Call (call_of Static 4 (Some (method_no 4)) (codes "go") plain_descriptor [] None)) (3 ∷ []))  -- invokestatic Ready.go
    ∷ returns 3  -- return
    ∷ [])

-- The field is of a primitive type, so that nothing is read.
abbrev pub reads_ready_nodes : LoweredMethod
reads_ready_nodes = lowered 1 0 1 0 (
    with_trigger 3 (node 0 (Assign (primitive_in 0 ∷ [])) (3 ∷ []))  -- getstatic Ready.size
    ∷ pops 3 0 4  -- pop
    ∷ returns 4  -- return
    ∷ [])

-- It is of a primitive type, so that nothing is written.
abbrev pub writes_ready_nodes : LoweredMethod
writes_ready_nodes = lowered 1 0 1 0 (
    node 0 (Assign (primitive_in 0 ∷ [])) (1 ∷ [])  -- iconst_0
    ∷ with_trigger 3 (node 1 (Assign (primitive_in 0 ∷ [])) (4 ∷ []))  -- putstatic Ready.size
    ∷ returns 4  -- return
    ∷ [])

-- `main` of a code, as nodes, starts the initialiser of a number; and that of Ready.
abbrev pub StartsInitialiser : ℕ → CodeBody → LoweredMethod → Type 0
StartsInitialiser number k m = TakesNode (runs k) (given_with m) (StartingNode (runs k) (given_with m) number)

abbrev pub StartsReady : CodeBody → LoweredMethod → Type 0
StartsReady k m = StartsInitialiser 3 k m

-- ---- one that fails

-- The program with the classes of the errors.
abbrev pub program_with_errors : CodeBody → Program
program_with_errors k = program_from (
    in_folder (codes "Broken.class") broken_class
    ∷ in_folder (codes "Late.class") late_class
    ∷ in_folder (codes "Main.class") (main_class k)
    ∷ in_folder (codes "Ready.class") ready_class
    ∷ in_folder (codes "Steady.class") steady_class
    ∷ in_folder (codes "Table.class") table_class
    ∷ library_class (codes "java/lang/Exception") (codes "java/lang/Throwable")
    ∷ object
    ∷ library_class string_name object_name
    ∷ library_class (codes "java/lang/Throwable") object_name
    ∷ alarm
    ∷ library_class (codes "java/lang/ExceptionInInitializerError") (codes "java/lang/Throwable")
    ∷ library_class (codes "java/lang/NoClassDefFoundError") (codes "java/lang/Throwable")
    ∷ [])

abbrev pub runs_with_errors : CodeBody → Subject
runs_with_errors k = run_of (program_with_errors k) 1 (codes "Ready")

abbrev pub errors : List ClassNo
errors = class_no 11 ∷ class_no 12 ∷ []

-- An object of Broken is made, at an offset.
abbrev pub makes_one : (offset next : ℕ) → Node
makes_one offset next = with_trigger 0 (with_throws errors (node offset (New (site_in 1 offset (codes "Broken")) 0) (next ∷ [])))

abbrev pub makes_broken_nodes : LoweredMethod
makes_broken_nodes = lowered 1 0 1 0 (
    with_handlers (catching 5 None ∷ []) (makes_one 0 3)  -- new Broken
    ∷ pops 3 0 4  -- pop
    ∷ returns 4  -- return
    ∷ pops 5 0 6  -- pop
    ∷ makes_one 6 9  -- new Broken
    ∷ pops 9 0 10  -- pop
    ∷ returns 10  -- return
    ∷ [])

abbrev pub given_broken : Given
given_broken = given_with makes_broken_nodes

abbrev pub BrokenSteps : (State → State → Type 0) → Type 0
BrokenSteps Kind = TakesNode (runs_with_errors makes_broken) given_broken Kind
