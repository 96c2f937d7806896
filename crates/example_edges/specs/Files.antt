-- Public contracts rest on this module.
-- What both programs have: a class F of the folder, whose methods are main, the initialiser of objects, read and close; and the classes of the library.
-- They are numbered in the order of a program: classes by their names, and methods by their classes.
use Rattle.std.specs.Prelude.{codes, ℕ, List, [], ◌∷◌, Some, None}
use Rattle.jvm_model.specs.declared.automaton.Automaton.{Automaton}
use Rattle.jvm_model.specs.declared.class_file.ClassFile.{ClassFile}
use Rattle.jvm_model.specs.declared.number.ClassNo.{ClassNo}
use Rattle.jvm_model.specs.declared.number.MethodNo.{MethodNo}
use Rattle.jvm_model.specs.declared.program.Origin.{Origin}
use Rattle.jvm_model.specs.declared.site.Site.{Site}
use Rattle.jvm_model.specs.declared.site.SiteKind.TheVariants as kinds
use Rattle.jvm_model.specs.declared.stub.StubResult.TheVariants.{Void}
use Rattle.jvm_model.specs.Linking.{program_from}
use Rattle.jvm_model.specs.Programs.{Program, object_name}
use Rattle.jvm_model.specs.Soundness.{plain_descriptor}
use Rattle.op_model.specs.declared.lowered.LoweredMethod.{LoweredMethod}
use Rattle.op_model.specs.declared.node.Node.{Node}
use Rattle.op_model.specs.declared.node.NodeRef.{NodeRef}
use Rattle.op_model.specs.declared.node.Spot.{Spot}
use Rattle.op_model.specs.declared.op.Call.{Call as NodeCall}
use Rattle.op_model.specs.declared.op.CallKind.TheVariants.{Special, Virtual}
use Rattle.op_model.specs.declared.op.Op.TheVariants.{Assign, Call, Return}
use Rattle.slot_names.specs.declared.variable.Variable.TheVariants.{At, Parameter}
use Rattle.points_to_rules.specs.Facts.{Fact, Holder, may_run, variable}
use Rattle.stage_facts.specs.Facts.{SiteFact, none_yet}
use Rattle.stage_edges.specs.Rules.{Edge, edge}
use Rattle.example_machine.specs.Building.{gives, in_folder, library, library_class}
use Rattle.example_nodes.specs.Lowering.{call_of, class_no, copy_of, lowered, method_no, node, primitive_in, site_in, with_throws}

-- ---- the program

abbrev pub main_number : MethodNo
main_number = method_no 0

abbrev pub init_number : MethodNo
init_number = method_no 1

abbrev pub read_number : MethodNo
read_number = method_no 2

abbrev pub close_number : MethodNo
close_number = method_no 3

-- The initialiser of java/lang/Object, which a stub describes.
abbrev pub object_init_number : MethodNo
object_init_number = method_no 4

abbrev pub arithmetic_name : List ℕ
arithmetic_name = codes "java/lang/ArithmeticException"

abbrev pub null_name : List ℕ
null_name = codes "java/lang/NullPointerException"

abbrev pub arithmetic_class : ClassNo
arithmetic_class = class_no 1

abbrev pub null_class : ClassNo
null_class = class_no 3

abbrev pub classes_of_library : List Origin
classes_of_library =
    library_class arithmetic_name (codes "java/lang/RuntimeException")
    ∷ library_class (codes "java/lang/Exception") (codes "java/lang/Throwable")
    ∷ library_class null_name (codes "java/lang/RuntimeException")
    ∷ library object_name [] (gives (codes "<init>") plain_descriptor Void ∷ []) []
    ∷ library_class (codes "java/lang/RuntimeException") (codes "java/lang/Exception")
    ∷ library_class (codes "java/lang/Throwable") object_name
    ∷ []

abbrev pub program_with : ClassFile → Program
program_with c = program_from (in_folder (codes "F.class") c ∷ classes_of_library)

-- An object is read while it is opened; after it is closed, reading it is an error.
abbrev pub opened : ℕ
opened = 0

abbrev pub closed : ℕ
closed = 1

abbrev pub property_with : (read_descriptor : List ℕ) → Automaton
property_with read_descriptor = record {
  class_name = codes "F";
  states = codes "opened" ∷ codes "closed" ∷ codes "error" ∷ [];
  initial = opened;
  error = 2;
  events = record { name = codes "read"; descriptor = read_descriptor; next = opened ∷ 2 ∷ 2 ∷ [] }
      ∷ record { name = codes "close"; descriptor = plain_descriptor; next = closed ∷ closed ∷ 2 ∷ [] } ∷ [];
}

-- ---- nodes

-- The site at which main makes its object.
abbrev pub made : Site
made = site_in 0 0 (codes "F")

-- A call of a method of F, which the object in a slot gets.
abbrev pub virtual_call : MethodNo → (name descriptor : List ℕ) → (slot : ℕ) → NodeCall
virtual_call target name descriptor slot = call_of Virtual target.0 None name descriptor (Some slot ∷ []) None

-- A call of an initialiser of objects.
abbrev pub initialising_call : MethodNo → (slot : ℕ) → NodeCall
initialising_call target slot = call_of Special target.0 (Some target) (codes "<init>") plain_descriptor (Some slot ∷ []) None

-- A call throws a new exception where its object is null.
abbrev pub calls : (offset : ℕ) → NodeCall → (successor : ℕ) → Node
calls offset c successor = with_throws (null_class ∷ []) (node offset (Call c) (successor ∷ []))

abbrev pub copies : (offset from slot successor : ℕ) → Node
copies offset from slot successor = node offset (Assign (copy_of from slot ∷ [])) (successor ∷ [])

-- The top of the stack is stored in a local variable, and is left a primitive.
abbrev pub stores : (offset top slot successor : ℕ) → Node
stores offset top slot successor = node offset (Assign (copy_of top slot ∷ primitive_in top ∷ [])) (successor ∷ [])

abbrev pub makes_primitive : (offset slot successor : ℕ) → Node
makes_primitive offset slot successor = node offset (Assign (primitive_in slot ∷ [])) (successor ∷ [])

abbrev pub ends : (offset : ℕ) → Node
ends offset = node offset (Return None) []

-- The initialiser of an object calls that of java/lang/Object, and `close` only returns.
abbrev pub init : LoweredMethod
init = lowered 1 1 1 1 (copies 0 0 1 1 ∷ calls 1 (initialising_call object_init_number 1) 4 ∷ ends 4 ∷ [])

abbrev pub close : LoweredMethod
close = lowered 3 1 0 1 (ends 0 ∷ [])

-- ---- facts

abbrev pub in_method : MethodNo → (offset : ℕ) → NodeRef
in_method m offset = record { method = Some m; offset = offset }

abbrev pub at_start : NodeRef
at_start = record { method = None; offset = 0 }

-- What a slot holds from an offset on, or from the beginning of the method.
abbrev pub from : MethodNo → (offset slot : ℕ) → Holder
from m offset slot = variable (At m offset slot)

abbrev pub parameter : MethodNo → (slot : ℕ) → Holder
parameter m slot = variable (Parameter m slot)

-- A new exception, which a node throws.
abbrev pub exception_at : MethodNo → (offset : ℕ) → (class : List ℕ) → Site
exception_at m offset class = record { kind = kinds.Thrown; method = Some m; offset = offset; class = class }

abbrev pub null_at : MethodNo → (offset : ℕ) → Site
null_at m offset = exception_at m offset null_name

abbrev pub all_run : List Fact
all_run = may_run main_number ∷ may_run init_number ∷ may_run read_number ∷ may_run close_number ∷ may_run object_init_number ∷ []

-- ---- edges

-- At the start of the program; in main; and in a method that is entered with a fact.
abbrev pub starting : Spot → SiteFact → Edge
starting spot fact = edge None none_yet spot fact

abbrev pub within : Spot → SiteFact → Edge
within spot fact = edge (Some main_number) none_yet spot fact

abbrev pub through : MethodNo → (entry : SiteFact) → Spot → SiteFact → Edge
through number entry spot fact = edge (Some number) entry spot fact
