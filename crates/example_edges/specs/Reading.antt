-- Public contracts rest on this module.
-- A class whose main makes an object, reads it in a loop, and closes it: its class file, its methods as nodes, the facts of the points-to analysis, the
-- setting of the second stage, and its path edges. The case read-in-a-loop has the same class file, and the edges by the second writing of the rules.
use Rattle.std.specs.Prelude.{codes, ℕ, true, List, [], ◌∷◌, ◌++◌}
use Rattle.jvm_model.specs.declared.automaton.Automaton.{Automaton}
use Rattle.jvm_model.specs.declared.class_file.ClassFile.{ClassFile}
use Rattle.jvm_model.specs.declared.pool.PoolEntry.{PoolEntry}
use Rattle.jvm_model.specs.declared.pool.PoolEntry.TheVariants.{Utf8, Methodref, NameAndType}
use Rattle.jvm_model.specs.Code.{CodeBody}
use Rattle.jvm_model.specs.Programs.{Program, object_name}
use Rattle.jvm_model.specs.Soundness.{plain_descriptor}
use Rattle.op_model.specs.declared.lowered.LoweredMethod.{LoweredMethod}
use Rattle.op_model.specs.declared.node.Spot.TheVariants as spots
use Rattle.op_model.specs.declared.op.Op.TheVariants.{Assign, New}
use Rattle.machine_bytecode.specs.Objects.{Subject}
use Rattle.points_to_rules.specs.Facts.{Fact, may_call, may_hold, thrown_by}
use Rattle.stage_facts.specs.Facts.{SiteFact, none_yet, some_yet, of_object}
use Rattle.stage_transfer.specs.Settings.{Setting}
use Rattle.stage_edges.specs.Rules.{Edge}
use Rattle.listed_answers.specs.ListedAnswers.{answers_by}
use Rattle.example_machine.specs.Building.{class_with, code, method, pool_of}
use Rattle.example_nodes.specs.Lowering.{lowered, node, primitive_in, with_trigger}
use Rattle.example_edges.specs.Files.{all_run, at_start, calls, close, close_number, closed, copies, ends, from, in_method, init, init_number, initialising_call, made, main_number, makes_primitive, null_at, object_init_number, opened, parameter, program_with, property_with, read_number, starting, stores, through, virtual_call, within}

-- ---- the class file

abbrev pub pool : List PoolEntry
pool = pool_of (codes "F") object_name (
    Utf8 (codes "main")  -- 6
    ∷ Utf8 plain_descriptor  -- 7
    ∷ Utf8 (codes "<init>")  -- 8
    ∷ NameAndType 8 7  -- 9
    ∷ Methodref 3 9  -- 10: F.<init>
    ∷ Utf8 (codes "read")  -- 11
    ∷ Utf8 (codes "()Z")  -- 12
    ∷ NameAndType 11 12  -- 13
    ∷ Methodref 3 13  -- 14: F.read
    ∷ Utf8 (codes "close")  -- 15
    ∷ NameAndType 15 7  -- 16
    ∷ Methodref 3 16  -- 17: F.close
    ∷ Methodref 5 9  -- 18: java/lang/Object.<init>
    ∷ [])

abbrev pub main_code : CodeBody
main_code = code 2 1 (
    187 ∷ 0 ∷ 3  -- 0: new F
    ∷ 89  -- 3: dup
    ∷ 183 ∷ 0 ∷ 10  -- 4: invokespecial F.<init>
    ∷ 75  -- 7: astore_0
    ∷ 42  -- 8: aload_0
    ∷ 182 ∷ 0 ∷ 14  -- 9: invokevirtual F.read
    ∷ 154 ∷ 255 ∷ 252  -- 12: ifne 8
    ∷ 42  -- 15: aload_0
    ∷ 182 ∷ 0 ∷ 17  -- 16: invokevirtual F.close
    ∷ 177  -- 19: return
    ∷ []) []

abbrev pub init_code : CodeBody
init_code = code 1 1 (
    42  -- 0: aload_0
    ∷ 183 ∷ 0 ∷ 18  -- 1: invokespecial java/lang/Object.<init>
    ∷ 177  -- 4: return
    ∷ []) []

abbrev pub read_code : CodeBody
read_code = code 1 1 (
    3  -- 0: iconst_0
    ∷ 172  -- 1: ireturn
    ∷ []) []

abbrev pub close_code : CodeBody
close_code = code 0 1 (177 ∷ []) []  -- 0: return

abbrev pub file : ClassFile
file = record (class_with pool 0x21 [] []
    (method 9 6 7 main_code ∷ method 1 8 7 init_code ∷ method 1 11 12 read_code ∷ method 1 15 7 close_code ∷ [])) { major = 52 }

abbrev pub program : Program
program = program_with file

abbrev pub property : Automaton
property = property_with (codes "()Z")

abbrev pub subject : Subject
subject = record { program = program; property = property; entry = 0 }

-- ---- the methods as nodes

abbrev pub main : LoweredMethod
main = lowered 0 1 2 0 (
    with_trigger 0 (node 0 (New made 1) (3 ∷ []))
    ∷ copies 3 1 2 4
    ∷ calls 4 (initialising_call init_number 2) 7
    ∷ stores 7 1 0 8
    ∷ copies 8 0 1 9
    ∷ calls 9 (virtual_call read_number (codes "read") (codes "()Z") 1) 12
    ∷ node 12 (Assign (primitive_in 1 ∷ [])) (15 ∷ 8 ∷ [])
    ∷ copies 15 0 1 16
    ∷ calls 16 (virtual_call close_number (codes "close") plain_descriptor 1) 19
    ∷ ends 19
    ∷ [])

abbrev pub read : LoweredMethod
read = lowered 2 1 1 1 (makes_primitive 0 1 1 ∷ ends 1 ∷ [])

abbrev pub methods : List LoweredMethod
methods = main ∷ init ∷ read ∷ close ∷ []

-- ---- the facts

abbrev pub targets : List Fact
targets =
    may_call (in_method init_number 1) object_init_number
    ∷ may_call (in_method main_number 16) close_number
    ∷ may_call (in_method main_number 4) init_number
    ∷ may_call (in_method main_number 9) read_number
    ∷ may_call at_start main_number
    ∷ []

-- The object.
abbrev pub held : List Fact
held =
    may_hold (from main_number 3 1) made
    ∷ may_hold (from main_number 8 0) made
    ∷ may_hold (parameter init_number 0) made
    ∷ may_hold (parameter close_number 0) made
    ∷ may_hold (parameter read_number 0) made
    ∷ may_hold (parameter object_init_number 0) made
    ∷ []

-- Exceptions.
abbrev pub thrown : List Fact
thrown =
    may_hold (thrown_by init_number) (null_at init_number 1)
    ∷ may_hold (thrown_by main_number) (null_at init_number 1)
    ∷ may_hold (thrown_by main_number) (null_at main_number 16)
    ∷ may_hold (thrown_by main_number) (null_at main_number 4)
    ∷ may_hold (thrown_by main_number) (null_at main_number 9)
    ∷ []

abbrev pub facts : List Fact
facts = all_run ++ targets ++ held ++ thrown

-- The second stage, with the answers that the facts give.
abbrev pub setting : Setting
setting = record { property = property; site = made; stage = 2; depth = 3; answers = answers_by facts }

-- ---- the path edges

-- The only object of the site, in a state.
abbrev pub only : (state : ℕ) → SiteFact
only state = of_object (record { unique = true; state = state; must = []; may = true; must_not = [] })

abbrev pub edges : List Edge
edges =
    starting (spots.Node 0) none_yet  -- 0
    ∷ within (spots.Node 0) none_yet  -- 1
    ∷ within (spots.Node 3) some_yet  -- 2
    ∷ within (spots.Node 3) (only opened)  -- 3
    ∷ within (spots.Node 4) some_yet  -- 4
    ∷ within (spots.Node 4) (only opened)  -- 5
    ∷ within spots.Thrown some_yet  -- 6
    ∷ through init_number some_yet (spots.Node 0) some_yet  -- 7
    ∷ within spots.Thrown (only opened)  -- 8
    ∷ through init_number (only opened) (spots.Node 0) (only opened)  -- 9
    ∷ starting spots.Thrown some_yet  -- 10
    ∷ through init_number some_yet (spots.Node 1) some_yet  -- 11
    ∷ starting spots.Thrown (only opened)  -- 12
    ∷ through init_number (only opened) (spots.Node 1) (only opened)  -- 13
    ∷ through init_number some_yet spots.Thrown some_yet  -- 14
    ∷ through init_number some_yet (spots.Node 4) some_yet  -- 15
    ∷ through init_number (only opened) spots.Thrown (only opened)  -- 16
    ∷ through init_number (only opened) (spots.Node 4) (only opened)  -- 17
    ∷ through init_number some_yet spots.Returned some_yet  -- 18
    ∷ through init_number (only opened) spots.Returned (only opened)  -- 19
    ∷ within (spots.Node 7) some_yet  -- 20
    ∷ within (spots.Node 7) (only opened)  -- 21
    ∷ within (spots.Node 8) some_yet  -- 22
    ∷ within (spots.Node 8) (only opened)  -- 23
    ∷ within (spots.Node 9) some_yet  -- 24
    ∷ within (spots.Node 9) (only opened)  -- 25
    ∷ through read_number some_yet (spots.Node 0) some_yet  -- 26
    ∷ through read_number (only opened) (spots.Node 0) (only opened)  -- 27
    ∷ through read_number some_yet (spots.Node 1) some_yet  -- 28
    ∷ through read_number (only opened) (spots.Node 1) (only opened)  -- 29
    ∷ through read_number some_yet spots.Returned some_yet  -- 30
    ∷ through read_number (only opened) spots.Returned (only opened)  -- 31
    ∷ within (spots.Node 12) some_yet  -- 32
    ∷ within (spots.Node 12) (only opened)  -- 33
    ∷ within (spots.Node 15) some_yet  -- 34
    ∷ within (spots.Node 15) (only opened)  -- 35
    ∷ within (spots.Node 16) some_yet  -- 36
    ∷ within (spots.Node 16) (only opened)  -- 37
    ∷ through close_number some_yet (spots.Node 0) some_yet  -- 38
    ∷ through close_number (only closed) (spots.Node 0) (only closed)  -- 39
    ∷ through close_number some_yet spots.Returned some_yet  -- 40
    ∷ through close_number (only closed) spots.Returned (only closed)  -- 41
    ∷ within (spots.Node 19) some_yet  -- 42
    ∷ within (spots.Node 19) (only closed)  -- 43
    ∷ within spots.Returned some_yet  -- 44
    ∷ within spots.Returned (only closed)  -- 45
    ∷ starting (spots.Node 1) some_yet  -- 46
    ∷ starting (spots.Node 1) (only closed)  -- 47
    ∷ starting spots.Returned some_yet  -- 48
    ∷ starting spots.Returned (only closed)  -- 49
    ∷ []
