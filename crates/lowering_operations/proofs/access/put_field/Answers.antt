use Rattle.std.proofs.Common.{◌+◌, ◌-◌, Bool, cond, sym, ap}
use Rattle.op_model.specs.declared.op.Op.TheVariants.{Store, Probe}
use Rattle.lowering_operations.proofs.FieldOperations.{puts_field}
use Rattle.lowering_operations.proofs.access.put_field.Goals as goal

pub returns-then-access-clause-operation : goal.returns-then-access-clause-operation
returns-then-access-clause-operation c =
    let a = c.accessed_field-access.result in
    let base = c.args.at.top - 1 - a.units in
    puts_field c.args.at a _ c.requires.action c.accessed_field-access.ensures.field (sym (ap (λ (b : Bool). cond b (Store base a.field (base + 1)) (Probe base)) c.if-access.true))

pub returns-clause-operation : goal.returns-clause-operation
returns-clause-operation c =
    let a = c.accessed_field-access.result in
    let base = c.args.at.top - 1 - a.units in
    puts_field c.args.at a _ c.requires.action c.accessed_field-access.ensures.field (sym (ap (λ (b : Bool). cond b (Store base a.field (base + 1)) (Probe base)) c.if-access.false))

pub returns-then-access-clause-order : goal.returns-then-access-clause-order
returns-then-access-clause-order c = record { for_row = λ row of_row base lowest. tt }

pub returns-clause-order : goal.returns-clause-order
returns-clause-order c = record { for_row = λ row of_row base lowest. tt }
