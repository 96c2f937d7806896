use Rattle.std.proofs.Common.{refl, sym, subst}
use Rattle.lowering_operations.specs.ByAction.{IsOperation}
use Rattle.lowering_operations.specs.Orders.{IsOrdered}
use Rattle.lowering_operations.proofs.Lifting.{if_ok}
use Rattle.lowering_operations.proofs.FieldOperations.{gets_static, gets_primitive, gets_in_order}
use Rattle.lowering_operations.proofs.access.get_static.Goals as goal

pub returns-then-access-clause-operation : goal.returns-then-access-clause-operation
returns-then-access-clause-operation c = gets_static c.args.at c.accessed_field-access.result _ c.requires.action c.accessed_field-access.ensures.field c.if-access.true refl

pub returns-clause-operation : goal.returns-clause-operation
returns-clause-operation c =
    let at = c.args.at in
    let access = c.accessed_field-access.result in
    if_ok c.cleared.result _ (IsOperation at) c.cleared.ensures
    (λ op is. subst (IsOperation at) (sym is) (gets_primitive at access _ c.requires.row c.requires.action c.accessed_field-access.ensures.field c.if-access.false refl))

pub returns-then-access-clause-order : goal.returns-then-access-clause-order
returns-then-access-clause-order c = record { for_row = λ row of_row base lowest. tt }

pub returns-clause-order : goal.returns-clause-order
returns-clause-order c =
    let at = c.args.at in
    let access = c.accessed_field-access.result in
    if_ok c.cleared.result _ (IsOrdered at) c.cleared.ensures
    (λ op is. subst (IsOrdered at) (sym is) (gets_in_order at access _ c.requires.row c.requires.action c.accessed_field-access.ensures.field c.if-access.false refl))
