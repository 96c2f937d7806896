-- Each row of the standard's table is shown by a row of the code's.
use Rattle.std.proofs.Common.{◌≡◌, List, [], ◌∷◌, map, refl, ap}
use Rattle.jvm_model.specs.declared.opcode.PoolTarget.TheVariants as targets
use Rattle.jvm_model.specs.declared.opcode.Operands.TheVariants as operands
use Rattle.jvm_model.specs.declared.opcode.UnitKind.TheVariants as kinds
use Rattle.jvm_model.specs.declared.opcode.UnitSource.TheVariants as sources
use Rattle.jvm_model.specs.declared.opcode.Flow.TheVariants as flows
use Rattle.jvm_model.specs.declared.opcode.Action.TheVariants as actions
use Rattle.jvm_model.specs.declared.opcode.Raise.TheVariants as raises
use Rattle.jvm_model.specs.declared.opcode.Row.{Row as CodeRow}
use Rattle.jvm_model.specs.RowViews.{target_view, operands_view, kind_view, source_view, flow_view, action_view, raise_view, row_view}
use Rattle.jvm_model.specs.Table.{PoolTarget, loadable, wide_number, a_field, class_method, any_method, interface_method, call_site, any_class, no_array, an_array, Operands, nothing, implied, value_1, value_2, type_code, local_1, pool_1, pool_2, offset_2, offset_4, local_and_value, pool_2_and_count, pool_2_and_zeros, pool_2_and_dimensions, table_of_offsets, pairs_with_offsets, widened, UnitKind, any_kind, primitive, reference, UnitSource, popped, the_local, a_null, a_primitive, the_made, Flow, onward, jump, branch, branch_if_null, branch_if_object, branch_if_same, branch_if_other, leave, subroutine, Action, plain, load_constant, load_element, store_element, probe_element, probe_array, probe_object, get_static, put_static, get_field, put_field, invoke_virtual, invoke_special, invoke_static, invoke_interface, make_object, make_array, throw_object, cast, leave_method, refused, Raise, null_pointer, array_index, array_store, arithmetic, class_cast, negative_size, Row, row}

-- what is seen as something
abbrev Shown : {X Y : Type 0} → (X → Y) → Y → Type 0
Shown {X} view y = (x : X) × (view x ≡ y)

shown_list : {X Y : Type 0} (view : X → Y) → ((y : Y) → Shown view y) → (ys : List Y) → Shown (map view) ys
shown_list view each [] = ([], refl)
shown_list view each (y ∷ ys) =
    let first = each y in
    let rest = shown_list view each ys in
    (first.0 ∷ rest.0, λ i. first.1 i ∷ rest.1 i)

shown_target : (t : PoolTarget) → Shown target_view t
shown_target loadable = (targets.Loadable, refl)
shown_target wide_number = (targets.WideNumber, refl)
shown_target a_field = (targets.Field, refl)
shown_target class_method = (targets.ClassMethod, refl)
shown_target any_method = (targets.AnyMethod, refl)
shown_target interface_method = (targets.InterfaceMethod, refl)
shown_target call_site = (targets.CallSite, refl)
shown_target any_class = (targets.AnyClass, refl)
shown_target no_array = (targets.NoArray, refl)
shown_target an_array = (targets.Array, refl)

shown_operands : (o : Operands) → Shown operands_view o
shown_operands nothing = (operands.Nothing, refl)
shown_operands (implied local) = (operands.Implied local, refl)
shown_operands value_1 = (operands.Value1, refl)
shown_operands value_2 = (operands.Value2, refl)
shown_operands type_code = (operands.TypeCode, refl)
shown_operands local_1 = (operands.Local1, refl)
shown_operands (pool_1 target) = let t = shown_target target in (operands.Pool1 t.0, ap pool_1 t.1)
shown_operands (pool_2 target) = let t = shown_target target in (operands.Pool2 t.0, ap pool_2 t.1)
shown_operands offset_2 = (operands.Offset2, refl)
shown_operands offset_4 = (operands.Offset4, refl)
shown_operands local_and_value = (operands.LocalAndValue, refl)
shown_operands pool_2_and_count = (operands.Pool2AndCount, refl)
shown_operands pool_2_and_zeros = (operands.Pool2AndZeros, refl)
shown_operands pool_2_and_dimensions = (operands.Pool2AndDimensions, refl)
shown_operands table_of_offsets = (operands.TableOfOffsets, refl)
shown_operands pairs_with_offsets = (operands.PairsWithOffsets, refl)
shown_operands widened = (operands.Widened, refl)

shown_kind : (k : UnitKind) → Shown kind_view k
shown_kind any_kind = (kinds.Any, refl)
shown_kind primitive = (kinds.Primitive, refl)
shown_kind reference = (kinds.Reference, refl)

shown_source : (u : UnitSource) → Shown source_view u
shown_source (popped unit) = (sources.Popped unit, refl)
shown_source the_local = (sources.Local, refl)
shown_source a_null = (sources.Null, refl)
shown_source a_primitive = (sources.Primitive, refl)
shown_source the_made = (sources.Made, refl)

shown_flow : (f : Flow) → Shown flow_view f
shown_flow onward = (flows.Onward, refl)
shown_flow jump = (flows.Jump, refl)
shown_flow branch = (flows.Branch, refl)
shown_flow branch_if_null = (flows.BranchIfNull, refl)
shown_flow branch_if_object = (flows.BranchIfObject, refl)
shown_flow branch_if_same = (flows.BranchIfSame, refl)
shown_flow branch_if_other = (flows.BranchIfOther, refl)
shown_flow leave = (flows.Leave, refl)
shown_flow subroutine = (flows.Subroutine, refl)

shown_action : (a : Action) → Shown action_view a
shown_action plain = (actions.Plain, refl)
shown_action load_constant = (actions.LoadConstant, refl)
shown_action load_element = (actions.LoadElement, refl)
shown_action store_element = (actions.StoreElement, refl)
shown_action probe_element = (actions.ProbeElement, refl)
shown_action probe_array = (actions.ProbeArray, refl)
shown_action probe_object = (actions.ProbeObject, refl)
shown_action get_static = (actions.GetStatic, refl)
shown_action put_static = (actions.PutStatic, refl)
shown_action get_field = (actions.GetField, refl)
shown_action put_field = (actions.PutField, refl)
shown_action invoke_virtual = (actions.InvokeVirtual, refl)
shown_action invoke_special = (actions.InvokeSpecial, refl)
shown_action invoke_static = (actions.InvokeStatic, refl)
shown_action invoke_interface = (actions.InvokeInterface, refl)
shown_action make_object = (actions.MakeObject, refl)
shown_action make_array = (actions.MakeArray, refl)
shown_action throw_object = (actions.ThrowObject, refl)
shown_action cast = (actions.Cast, refl)
shown_action leave_method = (actions.LeaveMethod, refl)
shown_action refused = (actions.Refused, refl)

shown_raise : (r : Raise) → Shown raise_view r
shown_raise null_pointer = (raises.NullPointer, refl)
shown_raise array_index = (raises.ArrayIndex, refl)
shown_raise array_store = (raises.ArrayStore, refl)
shown_raise arithmetic = (raises.Arithmetic, refl)
shown_raise class_cast = (raises.ClassCast, refl)
shown_raise negative_size = (raises.NegativeSize, refl)

pub shown_row : (r : Row) → (c : CodeRow) × (row_view c ≡ r)
shown_row r =
    let o = shown_operands r.operands in
    let pops = shown_list kind_view shown_kind r.pops in
    let pushes = shown_list source_view shown_source r.pushes in
    let stores = shown_list source_view shown_source r.stores in
    let f = shown_flow r.flow in
    let a = shown_action r.action in
    let each = shown_list raise_view shown_raise r.raises in (
      record {
        mnemonic = record { ref_ptr = (0, 0); now = r.mnemonic };
        operands = o.0;
        pops = record { ref_ptr = (0, 0); now = pops.0 };
        pushes = record { ref_ptr = (0, 0); now = pushes.0 };
        stores = record { ref_ptr = (0, 0); now = stores.0 };
        flow = f.0;
        action = a.0;
        raises = record { ref_ptr = (0, 0); now = each.0 };
      },
      λ i. row r.mnemonic (o.1 i) (pops.1 i) (pushes.1 i) (stores.1 i) (f.1 i) (a.1 i) (each.1 i),
    )
