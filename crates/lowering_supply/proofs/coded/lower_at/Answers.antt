use Rattle.std.proofs.Common.{Err, subst}
use Rattle.failure.specs.declared.Failure.{Failure}
use Rattle.jvm_model.specs.declared.reason.Fault.{Fault}
use Rattle.lowering_supply.specs.Methods.{TellsFlow}
use Rattle.lowering_supply.proofs.Shown.{fault_told, lowering_told}
use Rattle.lowering_supply.proofs.coded.lower_at.Goals as goal

pub returns-in-Ok : goal.returns-in-Ok
returns-in-Ok c =
    let flow = c.in-Ok.ensures in
    lowering_told c.args.program.now c.args.method c.requires.shown c.in-Ok.flow.code flow.0 c.in-Ok.flow.graph flow.1 c.lower_method.result c.lower_method.ensures.answer c.lower_method.ensures.order

pub returns-in-Err-Cause : goal.returns-in-Err-Cause
returns-in-Err-Cause c =
    let first = subst (λ (failure : Failure Fault). TellsFlow c.args.method.file.now c.args.method.place (Err failure)) c.in-Err-Cause.field-0-is c.in-Err-Cause.ensures in
    fault_told c.args.program.now c.args.method c.requires.shown c.in-Err-Cause.fault first c.class_refusal.result c.class_refusal.ensures
