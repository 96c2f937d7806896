use Rattle.std.proofs.Common.{◌≡◌, ℕ, ◌-◌, ◌≤◌, cond, length, map, Some, None, arith, refl, sym, ap, ◌∙◌, subst, rules}
use Rattle.jvm_model.specs.RowViews.{kind_view}
use Rattle.lowering_spec.specs.Operations.{unit_slots}
use Rattle.jvm_model.specs.Lookups.{lent_reference}
use Rattle.lowering_operations.specs.ByAction.{IsOperation}
use Rattle.lowering_operations.specs.Orders.{IsOrdered}
use Rattle.lowering_operations.proofs.Lifting.{if_ok}
use Rattle.lowering_operations.proofs.CallOperations.{has_units, is_call_operation}
use Rattle.lowering_operations.proofs.calls.call.Goals as goal

pub overflow_cast-base : goal.overflow_cast-base
overflow_cast-base c =
    let u = c.in_ok-units.units in
    let popped = c.in_ok-popped.popped.items in
    let few : length popped ≤ c.args.at.top =
    has_units c.args.at c.call_kind-kind.result (lent_reference c.named_method-named.result) u popped c.requires.action c.call_kind-kind.ensures c.named_method-named.ensures c.in_ok-units.ensures c.in_ok-popped.ensures c.requires.units in
    let top = c.requires.top in
    let len = c.len.ensures in
    omega (arith, few, top, len)

pub overflow_sub-base : goal.overflow_sub-base
overflow_sub-base c =
    let u = c.in_ok-units.units in
    let popped = c.in_ok-popped.popped.items in
    let few : length popped ≤ c.args.at.top =
    has_units c.args.at c.call_kind-kind.result (lent_reference c.named_method-named.result) u popped c.requires.action c.call_kind-kind.ensures c.named_method-named.ensures c.in_ok-units.ensures c.in_ok-popped.ensures c.requires.units in
    let len = c.len.ensures in
    omega (arith, few, len)

pub call_of-requires : goal.call_of-requires
call_of-requires c =
    let u = c.in_ok-units.units in
    let popped = c.in_ok-popped.popped.items in
    let few : length popped ≤ c.args.at.top =
    has_units c.args.at c.call_kind-kind.result (lent_reference c.named_method-named.result) u popped c.requires.action c.call_kind-kind.ensures c.named_method-named.ensures c.in_ok-units.ensures c.in_ok-popped.ensures c.requires.units in
    let top = c.requires.top in
    let len = c.len.ensures in
    let same = ap length c.deref.ensures.value in
    omega (arith, few, top, len, same)

pub returns-clause-operation : goal.returns-clause-operation
returns-clause-operation c =
    let at = c.args.at in
    let kind = c.call_kind-kind.result in
    let callee = c.callee_of-callee.result in
    let m = lent_reference c.named_method-named.result in
    let u = c.in_ok-units.units in
    let popped = c.in_ok-popped.popped.items in
    let returned = c.result_slot-returned.result in
    let len : c.len.result ≡ length popped = search (rules, c.len.ensures) in
    let base : at.top - c.len.result ≡ at.top - length popped = ap (λ (n : ℕ). at.top - n) len in
    let arguments : unit_slots (at.top - c.len.result) (map kind_view c.deref.result.now) ≡ unit_slots (at.top - length popped) (map kind_view popped) =
    (λ i. unit_slots (base i) (map kind_view (c.deref.ensures.value i))) in
    let result : returned ≡ cond u.gives_reference (Some (at.top - length popped)) None =
    c.result_slot-returned.ensures ∙ ap (λ (z : ℕ). cond u.gives_reference (Some z) None) base in
    let made = is_call_operation at kind m u popped c.requires.action c.call_kind-kind.ensures c.named_method-named.ensures c.in_ok-units.ensures c.in_ok-popped.ensures
    callee m.signature.name m.signature.descriptor (unit_slots (at.top - c.len.result) (map kind_view c.deref.result.now)) returned c.callee_of-callee.ensures refl refl arguments result in
    if_ok c.call_of.result _ (IsOperation at) c.call_of.ensures (λ op is. subst (IsOperation at) (sym is) made)

pub returns-clause-order : goal.returns-clause-order
returns-clause-order c = if_ok c.call_of.result _ (IsOrdered c.args.at) c.call_of.ensures (λ op is. subst (IsOrdered c.args.at) (sym is) (record { for_row = λ row of_row base lowest. tt }))
