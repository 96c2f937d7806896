-- Public contracts rest on this module.
-- Builders of methods as nodes, and the supply of some methods. Slots are the local variables, and then the units of the stack.
use Rattle.std.specs.Prelude.{ℕ, nat_eq, List, [], Option, Some, None, Ok, find, option_map}
use Rattle.jvm_model.specs.declared.number.ClassNo.{ClassNo}
use Rattle.jvm_model.specs.declared.number.FieldNo.{FieldNo}
use Rattle.jvm_model.specs.declared.number.MethodNo.{MethodNo}
use Rattle.jvm_model.specs.declared.site.Site.{Site}
use Rattle.jvm_model.specs.declared.site.SiteKind.TheVariants as kinds
use Rattle.op_model.specs.declared.lowered.LoweredMethod.{LoweredMethod}
use Rattle.op_model.specs.declared.node.Node.{Node}
use Rattle.op_model.specs.declared.node.NodeHandler.{NodeHandler}
use Rattle.op_model.specs.declared.op.Call.{Call as NodeCall}
use Rattle.op_model.specs.declared.op.CallKind.{CallKind}
use Rattle.op_model.specs.declared.op.Move.{Move}
use Rattle.op_model.specs.declared.op.Op.{Op}
use Rattle.op_model.specs.declared.op.Source.TheVariants as sources
use Rattle.op_model.specs.Supplies.{Given}

-- ---- numbers

abbrev pub class_no : ℕ → ClassNo
class_no number = record { 0 = number }

abbrev pub field_no : ℕ → FieldNo
field_no number = record { 0 = number }

abbrev pub method_no : ℕ → MethodNo
method_no number = record { 0 = number }

-- ---- moves

-- A slot gets a primitive, null, or the value of another slot.
abbrev pub primitive_in : ℕ → Move
primitive_in slot = record { source = sources.Primitive; target = slot }

abbrev pub null_in : ℕ → Move
null_in slot = record { source = sources.Null; target = slot }

abbrev pub copy_of : (from slot : ℕ) → Move
copy_of from slot = record { source = sources.Slot from; target = slot }

-- ---- operations

-- What an instruction of a method allocates of a class.
abbrev pub site_in : (number offset : ℕ) → (class : List ℕ) → Site
site_in number offset class = record { kind = kinds.New; method = Some (method_no number); offset = offset; class = class }

abbrev pub call_of : CallKind → (resolved : ℕ) → Option MethodNo → (name descriptor : List ℕ) → List (Option ℕ) → Option ℕ → NodeCall
call_of kind resolved chosen name descriptor arguments result =
    record { kind = kind; resolved = method_no resolved; chosen = chosen; name = name; descriptor = descriptor; arguments = arguments; result = result }

-- ---- nodes

-- A node by its offset, its operation and its successors; no handler covers it.
abbrev pub node : ℕ → Op → List ℕ → Node
node offset op successors = record { offset = offset; op = op; successors = successors; handlers = []; trigger = None; throws = [] }

-- It may start the initialisation of the class of a number.
abbrev pub with_trigger : ℕ → Node → Node
with_trigger class n = record { offset = n.offset; op = n.op; successors = n.successors; handlers = n.handlers; trigger = Some (class_no class); throws = n.throws }

-- It may throw new objects of the classes of some numbers.
abbrev pub with_throws : List ClassNo → Node → Node
with_throws throws n = record { offset = n.offset; op = n.op; successors = n.successors; handlers = n.handlers; trigger = n.trigger; throws = throws }

-- Handlers cover it.
abbrev pub with_handlers : List NodeHandler → Node → Node
with_handlers handlers n = record { offset = n.offset; op = n.op; successors = n.successors; handlers = handlers; trigger = n.trigger; throws = n.throws }

abbrev pub catching : (target : ℕ) → Option ClassNo → NodeHandler
catching target catch = record { target = target; catch = catch }

-- ---- methods

-- A method by its number, its local variables, its stack, the units of its parameters, and its nodes.
abbrev pub lowered : (number slots stack params : ℕ) → List Node → LoweredMethod
lowered number slots stack params nodes = record { method = method_no number; slots = slots; stack = stack; params = params; nodes = nodes }

-- These methods are given, each by its number, and no other.
abbrev pub given_by : List LoweredMethod → Given
given_by methods number = option_map (λ (m : LoweredMethod). Ok m) (find (λ (m : LoweredMethod). nat_eq m.method.0 number) methods)
