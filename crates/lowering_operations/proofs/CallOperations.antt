-- The operations of calls, of their rows.
use Rattle.std.proofs.Common.{◌≡◌, ℕ, ◌-◌, ◌≤◌, Bool, true, cond, List, ◌++◌, length, map, Option, Some, None, sym, ap, ◌∙◌, subst, arith}
use Rattle.std.proofs.lemmas.Bool.{false≢true}
use Rattle.std.proofs.lemmas.List.{length-map}
use Rattle.std.proofs.lemmas.Option.{same_Some}
use Rattle.jvm_model.specs.declared.number.MethodNo.{MethodNo}
use Rattle.jvm_model.specs.declared.opcode.UnitKind.{UnitKind as CodeUnitKind}
use Rattle.jvm_model.specs.declared.pool.PoolEntry.{PoolEntry}
use Rattle.jvm_model.specs.Instructions.{DecodedInstruction, member_at, HasDescriptorUnits, IsCallRow, RowBy}
use Rattle.jvm_model.specs.Lookups.{MemberReference}
use Rattle.jvm_model.specs.RowViews.{row_view, kind_view}
use Rattle.jvm_model.specs.Table.{Row, UnitKind, Action, is_call, invoke_virtual, invoke_special, invoke_static, invoke_interface}
use Rattle.machine_bytecode.specs.Machine.{NamesMethod}
use Rattle.machine_bytecode.specs.States.{is_reference_kind}
use Rattle.flow_graph.specs.Effects.{with_row}
use Rattle.op_model.specs.declared.op.CallKind.{CallKind}
use Rattle.op_model.specs.declared.op.CallKind.TheVariants as calls
use Rattle.op_model.specs.declared.op.Op.{Op}
use Rattle.op_model.specs.declared.op.Op.TheVariants.{Call}
use Rattle.lowering_spec.specs.Operations.{Placed, IsOp, IsCallOp, IsChosen, unit_slots, value_slot}
use Rattle.lowering_operations.specs.ByAction.{IsRowOf, HasRow, IsOperation, IsCallee, call_kind, receiver_units}
use Rattle.lowering_operations.specs.Placements.{placed_at}
use Rattle.lowering_operations.specs.UnitLists.{AreUnitsOf}
use Rattle.lowering_operations.specs.declared.calls.Callee.{Callee}
use Rattle.lowering_operations.specs.declared.placement.Placement.{Placement}
use Rattle.lowering_operations.specs.declared.units.MethodUnits.{MethodUnits}
use Rattle.lowering_operations.proofs.UnitsMade.{value_slot_by}

call_row : (a : Action) (pool : List PoolEntry) (i : DecodedInstruction) (row : Row) → is_call a ≡ true → RowBy a pool i row → IsCallRow pool i (receiver_units (call_kind a)) row
call_row invoke_virtual pool i row e is = is
call_row invoke_special pool i row e is = is
call_row invoke_static pool i row e is = is
call_row invoke_interface pool i row e is = is
call_row _ pool i row e is = absurd (false≢true e)

is_operation : (a : Action) (i : Placed) (op : Op) → is_call a ≡ true → IsCallOp i (call_kind a) op → IsOp a i op
is_operation invoke_virtual i op e is = is
is_operation invoke_special i op e is = is
is_operation invoke_static i op e is = is
is_operation invoke_interface i op e is = is
is_operation _ i op e is = absurd (false≢true e)

module _ (at : Placement) where
  abbrev listed : Row
  listed = row_view at.row.now

  moved : (kind : CallKind) (r s : Row) (b z : ℕ) (n : NamesMethod at.program.now at.class.now.pool at.instruction.now.operand) (chosen : Option MethodNo) → IsChosen kind (placed_at at r b) n chosen → IsChosen kind (placed_at at s z) n chosen
  moved calls.Virtual r s b z n chosen is = is
  moved calls.Special r s b z n chosen is = is
  moved calls.Static r s b z n chosen is = is
  moved calls.Interface r s b z n chosen is = is

  module _ (kind : CallKind) (m : MemberReference) (u : MethodUnits) (popped : List CodeUnitKind) (action : is_call listed.action ≡ true) (kind_is : kind ≡ call_kind listed.action)
      (named : member_at at.class.now.pool at.instruction.now.operand ≡ Some m) (units : AreUnitsOf m.signature.descriptor u) (popped_is : map kind_view popped ≡ receiver_units kind ++ map kind_view u.parameters.items) where
    row_of_call : (row : Row) → IsRowOf at row → IsCallRow at.class.now.pool (with_row at.instruction.now listed) (receiver_units (call_kind listed.action)) row
    row_of_call row is = call_row listed.action at.class.now.pool (with_row at.instruction.now listed) row action is

    described : (row : Row) (x : IsCallRow at.class.now.pool (with_row at.instruction.now listed) (receiver_units (call_kind listed.action)) row) → HasDescriptorUnits m.signature.descriptor x.parameters x.results
    described row x = subst (λ (y : MemberReference). HasDescriptorUnits y.signature.descriptor x.parameters x.results) (same_Some x.method m (sym x.named ∙ named)) x.units

    pops_are : (row : Row) → IsRowOf at row → row.pops ≡ map kind_view popped
    pops_are row is =
        let x = row_of_call row is in
        let parameters : map kind_view u.parameters.items ≡ x.parameters = units.parameters_are x.parameters x.results (described row x) in
        ap (λ (r : Row). r.pops) x.row_is ∙ ap (λ (us : List UnitKind). receiver_units (call_kind listed.action) ++ us) (sym parameters)
        ∙ ap (λ (k : CallKind). receiver_units k ++ map kind_view u.parameters.items) (sym kind_is) ∙ sym popped_is

    pops_count : (row : Row) → IsRowOf at row → length row.pops ≡ length popped
    pops_count row is = ap (λ (us : List UnitKind). length us) (pops_are row is) ∙ length-map popped kind_view

    pub has_units : HasRow at → length popped ≤ at.top
    has_units has = let enough = has.enough in let count = pops_count has.row has.of_row in omega (arith, enough, count)

    pub is_call_operation : (callee : Callee) (name descriptor : List ℕ) (arguments : List (Option ℕ)) (result : Option ℕ) → IsCallee at (call_kind listed.action) callee → name ≡ m.signature.name → descriptor ≡ m.signature.descriptor
        → arguments ≡ unit_slots (at.top - length popped) (map kind_view popped) → result ≡ cond u.gives_reference (Some (at.top - length popped)) None
        → IsOperation at (Call (record { kind = kind; resolved = callee.resolved; chosen = callee.chosen; name = name; descriptor = descriptor; arguments = arguments; result = result }))
    is_call_operation callee name descriptor arguments result is name_is descriptor_is arguments_are result_is = record {
      for_row = λ row of_row base lowest.
          (let x = row_of_call row of_row in
          let count = pops_count row of_row in
          let bases : at.top - length popped ≡ base = omega (arith, count, lowest) in
          let here : listed.action ≡ row.action = sym (ap (λ (r : Row). r.action) x.row_is) in
          let called : m ≡ is.names.called = same_Some m is.names.called (sym named ∙ is.names.named) in
          let resolved : callee.resolved ≡ record { 0 = is.names.resolved } = ap (λ (n : ℕ). record { 0 = n }) (sym is.number) in
          let name_there : name ≡ is.names.called.signature.name = name_is ∙ ap (λ (y : MemberReference). y.signature.name) called in
          let descriptor_there : descriptor ≡ is.names.called.signature.descriptor = descriptor_is ∙ ap (λ (y : MemberReference). y.signature.descriptor) called in
          let slots : arguments ≡ unit_slots base row.pops = arguments_are ∙ ap (λ (us : List UnitKind). unit_slots (at.top - length popped) us) (sym (pops_are row of_row)) ∙ ap (λ (z : ℕ). unit_slots z row.pops) bases in
          let refers : u.gives_reference ≡ is_reference_kind x.results = units.results_are x.parameters x.results (described row x) in
          let slot : result ≡ value_slot base x.results =
          result_is ∙ ap (λ (b : Bool). cond b (Some (at.top - length popped)) None) refers ∙ ap (λ (z : ℕ). cond (is_reference_kind x.results) (Some z) None) bases ∙ value_slot_by base x.results in
          let made : IsCallOp (placed_at at row base) (call_kind listed.action) (Call (record { kind = kind; resolved = callee.resolved; chosen = callee.chosen; name = name; descriptor = descriptor; arguments = arguments; result = result })) =
          record {
            names = is.names;
            chosen = callee.chosen;
            is_chosen = moved (call_kind listed.action) listed row 0 base is.names callee.chosen is.chosen;
            parameters = x.parameters;
            results = x.results;
            units = subst (λ (y : MemberReference). HasDescriptorUnits y.signature.descriptor x.parameters x.results) called (described row x);
            is = λ i. Call (record {
              kind = kind_is i;
              resolved = resolved i;
              chosen = callee.chosen;
              name = name_there i;
              descriptor = descriptor_there i;
              arguments = slots i;
              result = slot i;
            });
          } in
          let operation = is_operation listed.action (placed_at at row base) _ action made in
          subst (λ (a : Action). IsOp a (placed_at at row base) (Call (record { kind = kind; resolved = callee.resolved; chosen = callee.chosen; name = name; descriptor = descriptor; arguments = arguments; result = result }))) here operation);
    }
