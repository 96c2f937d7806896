use Rattle.std.proofs.Common.{◌≡◌, refl, sym, subst}
use Rattle.machine_bytecode.specs.Start.{boot_site}
use Rattle.op_model.specs.declared.op.Op.{Op}
use Rattle.op_model.specs.declared.op.Op.TheVariants.{Constant}
use Rattle.lowering_operations.specs.ByAction.{IsOperation}
use Rattle.lowering_operations.proofs.ConstantOperations.{loads_object, loads_number, number_in_order}
use Rattle.lowering_operations.specs.Orders.{IsOrdered}
use Rattle.lowering_operations.proofs.Lifting.{if_ok, constant_in_order}
use Rattle.lowering_operations.proofs.constants.load_constant.Goals as goal

pub returns-in-Some-clause-operation : goal.returns-in-Some-clause-operation
returns-in-Some-clause-operation c =
    let at = c.args.at in
    if_ok c.constant.result (λ (op : Op). op ≡ Constant (boot_site c.in-Some.class.now) at.top) (IsOperation at) c.constant.ensures
    (λ op is. loads_object at c.requires.action c.as_slice.result.now c.in-Some.class.now op c.as_slice.ensures c.in-Some.ensures is)

pub returns-in-None-clause-operation : goal.returns-in-None-clause-operation
returns-in-None-clause-operation c =
    let at = c.args.at in
    if_ok c.cleared.result _ (IsOperation at) c.cleared.ensures
    (λ op is. subst (IsOperation at) (sym is) (loads_number at c.requires.action c.as_slice.result.now _ c.as_slice.ensures c.requires.no_method c.in-None.ensures refl))

pub returns-in-Some-clause-order : goal.returns-in-Some-clause-order
returns-in-Some-clause-order c =
    let at = c.args.at in
    if_ok c.constant.result (λ (op : Op). op ≡ Constant (boot_site c.in-Some.class.now) at.top) (IsOrdered at) c.constant.ensures (λ op is. constant_in_order at op (boot_site c.in-Some.class.now) at.top is)

pub returns-in-None-clause-order : goal.returns-in-None-clause-order
returns-in-None-clause-order c =
    let at = c.args.at in
    if_ok c.cleared.result _ (IsOrdered at) c.cleared.ensures
    (λ op is. subst (IsOrdered at) (sym is) (number_in_order at c.requires.action c.as_slice.result.now _ c.as_slice.ensures c.requires.no_method c.in-None.ensures refl))
