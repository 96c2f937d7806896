-- Public contracts rest on this module.
-- A class whose main makes an object and reads it, which may throw; a handler closes it: its class file, its methods as nodes, the facts of the points-to
-- analysis, the setting of the third stage, and its path edges. The case closed-by-a-handler has the same class file, and the edges by the second writing
-- of the rules.
use Rattle.std.specs.Prelude.{codes, ℕ, map, true, false, List, [], ◌∷◌, ◌++◌, None}
use Rattle.jvm_model.specs.declared.automaton.Automaton.{Automaton}
use Rattle.jvm_model.specs.declared.class_file.ClassFile.{ClassFile}
use Rattle.jvm_model.specs.declared.pool.PoolEntry.{PoolEntry}
use Rattle.jvm_model.specs.declared.pool.PoolEntry.TheVariants.{Utf8, Methodref, NameAndType}
use Rattle.jvm_model.specs.Code.{CodeBody}
use Rattle.jvm_model.specs.Programs.{Program, object_name}
use Rattle.jvm_model.specs.Soundness.{plain_descriptor}
use Rattle.op_model.specs.declared.lowered.LoweredMethod.{LoweredMethod}
use Rattle.op_model.specs.declared.node.Spot.TheVariants as spots
use Rattle.op_model.specs.declared.op.Op.TheVariants.{Assign, New}
use Rattle.machine_bytecode.specs.Objects.{Subject}
use Rattle.points_to_rules.specs.Facts.{Fact, may_call, may_hold, thrown_by}
use Rattle.access_paths.specs.declared.root.Root.TheVariants.{Slot}
use Rattle.access_paths.specs.Paths.{bare}
use Rattle.stage_facts.specs.Facts.{SiteFact, none_yet, some_yet, of_object}
use Rattle.stage_transfer.specs.Settings.{Setting}
use Rattle.stage_edges.specs.Rules.{Edge}
use Rattle.listed_answers.specs.ListedAnswers.{answers_by}
use Rattle.example_machine.specs.Building.{class_with, code, handler, method, pool_of}
use Rattle.example_nodes.specs.Lowering.{catching, lowered, node, primitive_in, with_handlers, with_throws, with_trigger}
use Rattle.op_model.specs.declared.node.NodeHandler.{NodeHandler}
use Rattle.example_edges.specs.Files.{all_run, arithmetic_class, arithmetic_name, at_start, calls, close, close_number, closed, copies, ends, exception_at, from, in_method, init, init_number, initialising_call, made, main_number, makes_primitive, null_at, object_init_number, opened, parameter, program_with, property_with, read_number, starting, stores, through, virtual_call, within}

-- ---- the class file

abbrev pub pool : List PoolEntry
pool = pool_of (codes "F") object_name (
    Utf8 (codes "main")  -- 6
    ∷ Utf8 plain_descriptor  -- 7
    ∷ Utf8 (codes "<init>")  -- 8
    ∷ NameAndType 8 7  -- 9
    ∷ Methodref 3 9  -- 10: F.<init>
    ∷ Utf8 (codes "read")  -- 11
    ∷ NameAndType 11 7  -- 12
    ∷ Methodref 3 12  -- 13: F.read
    ∷ Utf8 (codes "close")  -- 14
    ∷ NameAndType 14 7  -- 15
    ∷ Methodref 3 15  -- 16: F.close
    ∷ Methodref 5 9  -- 17: java/lang/Object.<init>
    ∷ [])

-- A handler takes all that is thrown from 8 to 12.
abbrev pub main_code : CodeBody
main_code = code 2 2 (
    187 ∷ 0 ∷ 3  -- 0: new F
    ∷ 89  -- 3: dup
    ∷ 183 ∷ 0 ∷ 10  -- 4: invokespecial F.<init>
    ∷ 75  -- 7: astore_0
    ∷ 42  -- 8: aload_0
    ∷ 182 ∷ 0 ∷ 13  -- 9: invokevirtual F.read
    ∷ 167 ∷ 0 ∷ 8  -- 12: goto 20
    ∷ 76  -- 15: astore_1
    ∷ 42  -- 16: aload_0
    ∷ 182 ∷ 0 ∷ 16  -- 17: invokevirtual F.close
    ∷ 177  -- 20: return
    ∷ []) (handler 8 12 15 0 ∷ [])

abbrev pub init_code : CodeBody
init_code = code 1 1 (
    42  -- 0: aload_0
    ∷ 183 ∷ 0 ∷ 17  -- 1: invokespecial java/lang/Object.<init>
    ∷ 177  -- 4: return
    ∷ []) []

abbrev pub read_code : CodeBody
read_code = code 2 1 (
    4  -- 0: iconst_1
    ∷ 3  -- 1: iconst_0
    ∷ 108  -- 2: idiv
    ∷ 87  -- 3: pop
    ∷ 177  -- 4: return
    ∷ []) []

abbrev pub close_code : CodeBody
close_code = code 0 1 (177 ∷ []) []  -- 0: return

abbrev pub file : ClassFile
file = record (class_with pool 0x21 [] []
    (method 9 6 7 main_code ∷ method 1 8 7 init_code ∷ method 1 11 7 read_code ∷ method 1 14 7 close_code ∷ [])) { major = 52 }

abbrev pub program : Program
program = program_with file

abbrev pub property : Automaton
property = property_with plain_descriptor

abbrev pub subject : Subject
subject = record { program = program; property = property; entry = 0 }

-- ---- the methods as nodes

abbrev pub covering : List NodeHandler
covering = catching 15 None ∷ []

abbrev pub main : LoweredMethod
main = lowered 0 2 2 0 (
    with_trigger 0 (node 0 (New made 2) (3 ∷ []))
    ∷ copies 3 2 3 4
    ∷ calls 4 (initialising_call init_number 3) 7
    ∷ stores 7 2 0 8
    ∷ with_handlers covering (copies 8 0 2 9)
    ∷ with_handlers covering (calls 9 (virtual_call read_number (codes "read") plain_descriptor 2) 12)
    ∷ node 12 (Assign []) (20 ∷ [])
    ∷ stores 15 2 1 16
    ∷ copies 16 0 2 17
    ∷ calls 17 (virtual_call close_number (codes "close") plain_descriptor 2) 20
    ∷ ends 20
    ∷ [])

-- The division may throw.
abbrev pub read : LoweredMethod
read = lowered 2 1 2 1 (
    makes_primitive 0 1 1
    ∷ makes_primitive 1 2 2
    ∷ with_throws (arithmetic_class ∷ []) (node 2 (Assign (primitive_in 1 ∷ primitive_in 2 ∷ [])) (3 ∷ []))
    ∷ makes_primitive 3 1 4
    ∷ ends 4
    ∷ [])

abbrev pub methods : List LoweredMethod
methods = main ∷ init ∷ read ∷ close ∷ []

-- ---- the facts

abbrev pub targets : List Fact
targets =
    may_call (in_method init_number 1) object_init_number
    ∷ may_call (in_method main_number 17) close_number
    ∷ may_call (in_method main_number 4) init_number
    ∷ may_call (in_method main_number 9) read_number
    ∷ may_call at_start main_number
    ∷ []

-- The object.
abbrev pub held_made : List Fact
held_made =
    may_hold (from main_number 15 0) made
    ∷ may_hold (from main_number 20 0) made
    ∷ may_hold (from main_number 3 2) made
    ∷ may_hold (parameter init_number 0) made
    ∷ may_hold (parameter close_number 0) made
    ∷ may_hold (parameter read_number 0) made
    ∷ may_hold (parameter object_init_number 0) made
    ∷ []

-- Exceptions: in the slots to which the handler leads, and those that methods throw.
abbrev pub caught : List Fact
caught =
    may_hold (from main_number 15 2) (null_at main_number 9)
    ∷ may_hold (from main_number 15 2) (exception_at read_number 2 arithmetic_name)
    ∷ may_hold (from main_number 20 1) (null_at main_number 9)
    ∷ may_hold (from main_number 20 1) (exception_at read_number 2 arithmetic_name)
    ∷ []

abbrev pub thrown : List Fact
thrown =
    may_hold (thrown_by init_number) (null_at init_number 1)
    ∷ may_hold (thrown_by main_number) (null_at init_number 1)
    ∷ may_hold (thrown_by main_number) (null_at main_number 17)
    ∷ may_hold (thrown_by main_number) (null_at main_number 4)
    ∷ may_hold (thrown_by read_number) (exception_at read_number 2 arithmetic_name)
    ∷ []

abbrev pub facts : List Fact
facts = all_run ++ targets ++ held_made ++ caught ++ thrown

-- The third stage, with the answers that the facts give.
abbrev pub setting : Setting
setting = record { property = property; site = made; stage = 3; depth = 3; answers = answers_by facts }

-- ---- the path edges

-- The only object of the site, in a state: some slots hold it, and no other cell does.
abbrev pub held : (state : ℕ) → (slots : List ℕ) → SiteFact
held state slots = of_object (record { unique = true; state = state; must = map (λ (z : ℕ). bare (Slot z)) slots; may = false; must_not = [] })

abbrev pub edges : List Edge
edges =
    starting (spots.Node 0) none_yet  -- 0
    ∷ within (spots.Node 0) none_yet  -- 1
    ∷ within (spots.Node 3) some_yet  -- 2
    ∷ within (spots.Node 3) (held opened (2 ∷ []))  -- 3
    ∷ within (spots.Node 4) some_yet  -- 4
    ∷ within (spots.Node 4) (held opened (2 ∷ 3 ∷ []))  -- 5
    ∷ within spots.Thrown some_yet  -- 6
    ∷ through init_number some_yet (spots.Node 0) some_yet  -- 7
    ∷ within spots.Thrown (held opened [])  -- 8
    ∷ through init_number (held opened (0 ∷ [])) (spots.Node 0) (held opened (0 ∷ []))  -- 9
    ∷ starting spots.Thrown some_yet  -- 10
    ∷ through init_number some_yet (spots.Node 1) some_yet  -- 11
    ∷ starting spots.Thrown (held opened [])  -- 12
    ∷ through init_number (held opened (0 ∷ [])) (spots.Node 1) (held opened (0 ∷ 1 ∷ []))  -- 13
    ∷ through init_number some_yet spots.Thrown some_yet  -- 14
    ∷ through init_number some_yet (spots.Node 4) some_yet  -- 15
    ∷ through init_number (held opened (0 ∷ [])) spots.Thrown (held opened [])  -- 16
    ∷ through init_number (held opened (0 ∷ [])) (spots.Node 4) (held opened (0 ∷ []))  -- 17
    ∷ through init_number some_yet spots.Returned some_yet  -- 18
    ∷ through init_number (held opened (0 ∷ [])) spots.Returned (held opened [])  -- 19
    ∷ within (spots.Node 7) some_yet  -- 20
    ∷ within (spots.Node 7) (held opened (2 ∷ []))  -- 21
    ∷ within (spots.Node 8) some_yet  -- 22
    ∷ within (spots.Node 8) (held opened (0 ∷ []))  -- 23
    ∷ within (spots.Node 9) some_yet  -- 24
    ∷ within (spots.Node 9) (held opened (0 ∷ 2 ∷ []))  -- 25
    ∷ within (spots.Node 15) some_yet  -- 26
    ∷ through read_number some_yet (spots.Node 0) some_yet  -- 27
    ∷ within (spots.Node 15) (held opened (0 ∷ []))  -- 28
    ∷ through read_number (held opened (0 ∷ [])) (spots.Node 0) (held opened (0 ∷ []))  -- 29
    ∷ within (spots.Node 16) some_yet  -- 30
    ∷ through read_number some_yet (spots.Node 1) some_yet  -- 31
    ∷ within (spots.Node 16) (held opened (0 ∷ []))  -- 32
    ∷ through read_number (held opened (0 ∷ [])) (spots.Node 1) (held opened (0 ∷ []))  -- 33
    ∷ within (spots.Node 17) some_yet  -- 34
    ∷ through read_number some_yet (spots.Node 2) some_yet  -- 35
    ∷ within (spots.Node 17) (held opened (0 ∷ 2 ∷ []))  -- 36
    ∷ through read_number (held opened (0 ∷ [])) (spots.Node 2) (held opened (0 ∷ []))  -- 37
    ∷ through close_number some_yet (spots.Node 0) some_yet  -- 38
    ∷ through read_number some_yet spots.Thrown some_yet  -- 39
    ∷ through read_number some_yet (spots.Node 3) some_yet  -- 40
    ∷ through close_number (held closed (0 ∷ [])) (spots.Node 0) (held closed (0 ∷ []))  -- 41
    ∷ through read_number (held opened (0 ∷ [])) spots.Thrown (held opened [])  -- 42
    ∷ through read_number (held opened (0 ∷ [])) (spots.Node 3) (held opened (0 ∷ []))  -- 43
    ∷ through close_number some_yet spots.Returned some_yet  -- 44
    ∷ through read_number some_yet (spots.Node 4) some_yet  -- 45
    ∷ through close_number (held closed (0 ∷ [])) spots.Returned (held closed [])  -- 46
    ∷ through read_number (held opened (0 ∷ [])) (spots.Node 4) (held opened (0 ∷ []))  -- 47
    ∷ within (spots.Node 20) some_yet  -- 48
    ∷ through read_number some_yet spots.Returned some_yet  -- 49
    ∷ within (spots.Node 20) (held closed (0 ∷ []))  -- 50
    ∷ through read_number (held opened (0 ∷ [])) spots.Returned (held opened [])  -- 51
    ∷ within spots.Returned some_yet  -- 52
    ∷ within (spots.Node 12) some_yet  -- 53
    ∷ within spots.Returned (held closed [])  -- 54
    ∷ within (spots.Node 12) (held opened (0 ∷ []))  -- 55
    ∷ starting (spots.Node 1) some_yet  -- 56
    ∷ starting (spots.Node 1) (held closed [])  -- 57
    ∷ within (spots.Node 20) (held opened (0 ∷ []))  -- 58
    ∷ starting spots.Returned some_yet  -- 59
    ∷ starting spots.Returned (held closed [])  -- 60
    ∷ within spots.Returned (held opened [])  -- 61
    ∷ starting (spots.Node 1) (held opened [])  -- 62
    ∷ starting spots.Returned (held opened [])  -- 63
    ∷ []
