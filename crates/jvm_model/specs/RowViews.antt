-- Public contracts rest on this module.
-- The rows of the code's instruction table, as rows of the table of JVMS 6.5.
use Rattle.std.specs.Prelude.{map}
use Rattle.jvm_model.specs.declared.opcode.PoolTarget.{PoolTarget as CodePoolTarget}
use Rattle.jvm_model.specs.declared.opcode.PoolTarget.TheVariants as targets
use Rattle.jvm_model.specs.declared.opcode.Operands.{Operands as CodeOperands}
use Rattle.jvm_model.specs.declared.opcode.Operands.TheVariants as operands
use Rattle.jvm_model.specs.declared.opcode.UnitKind.{UnitKind as CodeUnitKind}
use Rattle.jvm_model.specs.declared.opcode.UnitKind.TheVariants as kinds
use Rattle.jvm_model.specs.declared.opcode.UnitSource.{UnitSource as CodeUnitSource}
use Rattle.jvm_model.specs.declared.opcode.UnitSource.TheVariants as sources
use Rattle.jvm_model.specs.declared.opcode.Flow.{Flow as CodeFlow}
use Rattle.jvm_model.specs.declared.opcode.Flow.TheVariants as flows
use Rattle.jvm_model.specs.declared.opcode.Action.{Action as CodeAction}
use Rattle.jvm_model.specs.declared.opcode.Action.TheVariants as actions
use Rattle.jvm_model.specs.declared.opcode.Raise.{Raise as CodeRaise}
use Rattle.jvm_model.specs.declared.opcode.Raise.TheVariants as raises
use Rattle.jvm_model.specs.declared.opcode.Row.{Row as CodeRow}
use Rattle.jvm_model.specs.Table.{PoolTarget, loadable, wide_number, a_field, class_method, any_method, interface_method, call_site, any_class, no_array, an_array, Operands, nothing, implied, value_1, value_2, type_code, local_1, pool_1, pool_2, offset_2, offset_4, local_and_value, pool_2_and_count, pool_2_and_zeros, pool_2_and_dimensions, table_of_offsets, pairs_with_offsets, widened, UnitKind, any_kind, primitive, reference, UnitSource, popped, the_local, a_null, a_primitive, the_made, Flow, onward, jump, branch, branch_if_null, branch_if_object, branch_if_same, branch_if_other, leave, subroutine, Action, plain, load_constant, load_element, store_element, probe_element, probe_array, probe_object, get_static, put_static, get_field, put_field, invoke_virtual, invoke_special, invoke_static, invoke_interface, make_object, make_array, throw_object, cast, leave_method, refused, Raise, null_pointer, array_index, array_store, arithmetic, class_cast, negative_size, Row, row}

abbrev pub target_view : CodePoolTarget → PoolTarget
target_view targets.Loadable = loadable
target_view targets.WideNumber = wide_number
target_view targets.Field = a_field
target_view targets.ClassMethod = class_method
target_view targets.AnyMethod = any_method
target_view targets.InterfaceMethod = interface_method
target_view targets.CallSite = call_site
target_view targets.AnyClass = any_class
target_view targets.NoArray = no_array
target_view targets.Array = an_array

abbrev pub operands_view : CodeOperands → Operands
operands_view operands.Nothing = nothing
operands_view (operands.Implied local) = implied local
operands_view operands.Value1 = value_1
operands_view operands.Value2 = value_2
operands_view operands.TypeCode = type_code
operands_view operands.Local1 = local_1
operands_view (operands.Pool1 target) = pool_1 (target_view target)
operands_view (operands.Pool2 target) = pool_2 (target_view target)
operands_view operands.Offset2 = offset_2
operands_view operands.Offset4 = offset_4
operands_view operands.LocalAndValue = local_and_value
operands_view operands.Pool2AndCount = pool_2_and_count
operands_view operands.Pool2AndZeros = pool_2_and_zeros
operands_view operands.Pool2AndDimensions = pool_2_and_dimensions
operands_view operands.TableOfOffsets = table_of_offsets
operands_view operands.PairsWithOffsets = pairs_with_offsets
operands_view operands.Widened = widened

abbrev pub kind_view : CodeUnitKind → UnitKind
kind_view kinds.Any = any_kind
kind_view kinds.Primitive = primitive
kind_view kinds.Reference = reference

abbrev pub source_view : CodeUnitSource → UnitSource
source_view (sources.Popped unit) = popped unit
source_view sources.Local = the_local
source_view sources.Null = a_null
source_view sources.Primitive = a_primitive
source_view sources.Made = the_made

abbrev pub flow_view : CodeFlow → Flow
flow_view flows.Onward = onward
flow_view flows.Jump = jump
flow_view flows.Branch = branch
flow_view flows.BranchIfNull = branch_if_null
flow_view flows.BranchIfObject = branch_if_object
flow_view flows.BranchIfSame = branch_if_same
flow_view flows.BranchIfOther = branch_if_other
flow_view flows.Leave = leave
flow_view flows.Subroutine = subroutine

abbrev pub action_view : CodeAction → Action
action_view actions.Plain = plain
action_view actions.LoadConstant = load_constant
action_view actions.LoadElement = load_element
action_view actions.StoreElement = store_element
action_view actions.ProbeElement = probe_element
action_view actions.ProbeArray = probe_array
action_view actions.ProbeObject = probe_object
action_view actions.GetStatic = get_static
action_view actions.PutStatic = put_static
action_view actions.GetField = get_field
action_view actions.PutField = put_field
action_view actions.InvokeVirtual = invoke_virtual
action_view actions.InvokeSpecial = invoke_special
action_view actions.InvokeStatic = invoke_static
action_view actions.InvokeInterface = invoke_interface
action_view actions.MakeObject = make_object
action_view actions.MakeArray = make_array
action_view actions.ThrowObject = throw_object
action_view actions.Cast = cast
action_view actions.LeaveMethod = leave_method
action_view actions.Refused = refused

abbrev pub raise_view : CodeRaise → Raise
raise_view raises.NullPointer = null_pointer
raise_view raises.ArrayIndex = array_index
raise_view raises.ArrayStore = array_store
raise_view raises.Arithmetic = arithmetic
raise_view raises.ClassCast = class_cast
raise_view raises.NegativeSize = negative_size

-- A row of the code's table, as a row of the standard's.
abbrev pub row_view : CodeRow → Row
row_view r =
    row r.mnemonic.now (operands_view r.operands) (map kind_view r.pops.now) (map source_view r.pushes.now) (map source_view r.stores.now) (flow_view r.flow) (action_view r.action)
    (map raise_view r.raises.now)
