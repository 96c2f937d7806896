-- Public contracts rest on this module.
-- What the functions for each action need and give.
use Rattle.std.specs.Prelude.{◌≡◌, ℕ, ◌+◌, ◌≤◌, Bool, true, false, List, [], ◌∷◌, length, map, Option, Some, unwrap_or}
use Rattle.jvm_model.specs.declared.number.MethodNo.{MethodNo}
use Rattle.jvm_model.specs.declared.site.Site.{Site}
use Rattle.jvm_model.specs.declared.site.SiteKind.TheVariants as kinds
use Rattle.jvm_model.specs.Instructions.{IsRowAt, kinds_of}
use Rattle.jvm_model.specs.RowViews.{row_view}
use Rattle.jvm_model.specs.Table.{Row, UnitKind, reference, Action, plain, load_constant, load_element, store_element, probe_element, probe_array, probe_object, get_static, put_static, get_field, put_field, invoke_virtual, invoke_special, invoke_static, invoke_interface, make_object, make_array, throw_object, cast, leave_method, refused}
use Rattle.machine_bytecode.specs.Machine.{NamesField, NamesMethod}
use Rattle.machine_bytecode.specs.States.{is_reference_type}
use Rattle.flow_graph.specs.Effects.{with_row}
use Rattle.op_model.specs.declared.op.CallKind.{CallKind}
use Rattle.op_model.specs.declared.op.CallKind.TheVariants as calls
use Rattle.op_model.specs.declared.op.Op.{Op}
use Rattle.op_model.specs.declared.op.Op.TheVariants.{NewArray}
use Rattle.lowering_spec.specs.Operations.{IsOp, IsChosen}
use Rattle.lowering_operations.specs.declared.access.Access.{Access}
use Rattle.lowering_operations.specs.declared.calls.Callee.{Callee}
use Rattle.lowering_operations.specs.declared.placement.Placement.{Placement}
use Rattle.lowering_operations.specs.Placements.{placed_at}

-- ---- rows

-- The row of the instruction, by what the constant pool says of its units.
abbrev pub IsRowOf : Placement → Row → Type 0
IsRowOf at row = IsRowAt at.class.now.pool (with_row at.instruction.now (row_view at.row.now)) row

-- It has one, and there are as many units below the top as it pops.
pub record HasRow (at : Placement) : Type 0 where
  pub row : Row
  pub of_row : IsRowOf at row
  pub enough : length row.pops ≤ at.top

-- The operation is that of the instruction, by its row, wherever its lowest unit is.
pub record IsOperation (at : Placement) (op : Op) : Type 0 where
  pub for_row : (row : Row) → IsRowOf at row → (base : ℕ) → base + length row.pops ≡ at.top → IsOp row.action (placed_at at row base) op

-- The operation is that of the row of the table, where the lowest unit is the slot.
abbrev pub IsTableOperation : Placement → ℕ → Op → Type 0
IsTableOperation at base op = IsOp (row_view at.row.now).action (placed_at at (row_view at.row.now) base) op

-- The row of the table has all units, whatever the constant pool says.
abbrev pub is_of_table : Action → Bool
is_of_table plain = true
is_of_table load_constant = false
is_of_table load_element = true
is_of_table store_element = true
is_of_table probe_element = true
is_of_table probe_array = true
is_of_table probe_object = true
is_of_table get_static = false
is_of_table put_static = false
is_of_table get_field = false
is_of_table put_field = false
is_of_table invoke_virtual = false
is_of_table invoke_special = false
is_of_table invoke_static = false
is_of_table invoke_interface = false
is_of_table make_object = true
is_of_table make_array = false
is_of_table throw_object = true
is_of_table cast = true
is_of_table leave_method = true
is_of_table refused = false

-- The instruction makes an object of a class that it names, or casts to it.
abbrev pub names_class : Action → Bool
names_class make_object = true
names_class cast = true
names_class _ = false

-- ---- sites

-- What the instruction allocates of a class.
abbrev pub site_at : Placement → List ℕ → Site
site_at at class = record { kind = kinds.New; method = Some at.method; offset = at.offset; class = class }

-- The arrays are made where the lowest of so many units is that at the top.
pub record IsArrayOperation (at : Placement) (units : ℕ) (arrays : List (List ℕ)) (op : Op) : Type 0 where
  pub base : ℕ
  pub lowest : base + units ≡ at.top
  pub is : op ≡ NewArray (map (site_at at) arrays) base

-- ---- fields

-- The field that the instruction names, static or not.
pub record AccessesField (at : Placement) (wants_static : Bool) (a : Access) : Type 0 where
  pub names : NamesField at.program.now at.class.now.pool at.instruction.now.operand wants_static
  pub number : names.number ≡ a.field.0
  pub as_named : names.field.signature ≡ names.named.signature
  pub is_reference : a.is_reference ≡ is_reference_type names.field.signature.descriptor
  pub units : a.units ≡ length (kinds_of names.field.signature.descriptor)

-- ---- calls

-- How the target of a call is chosen; of any other action as of a call of an object of a class.
abbrev pub call_kind : Action → CallKind
call_kind invoke_special = calls.Special
call_kind invoke_static = calls.Static
call_kind invoke_interface = calls.Interface
call_kind _ = calls.Virtual

-- The unit of the receiver: a static call has none.
abbrev pub receiver_units : CallKind → List UnitKind
receiver_units calls.Virtual = reference ∷ []
receiver_units calls.Special = reference ∷ []
receiver_units calls.Static = []
receiver_units calls.Interface = reference ∷ []

-- The method that the reference of a call resolves to: a static call goes to that one.
abbrev pub resolved_method : Action → MethodNo → Option MethodNo → MethodNo
resolved_method invoke_static resolved target = unwrap_or target resolved
resolved_method _ resolved target = resolved

-- The methods of the call: the one that is resolved, and the target that is known beforehand.
pub record IsCallee (at : Placement) (kind : CallKind) (c : Callee) : Type 0 where
  pub names : NamesMethod at.program.now at.class.now.pool at.instruction.now.operand
  pub number : names.resolved ≡ c.resolved.0
  pub chosen : IsChosen kind (placed_at at (row_view at.row.now) 0) names c.chosen
