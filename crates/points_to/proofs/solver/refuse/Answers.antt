use Rattle.std.proofs.Common.{Option, subst}
use Rattle.std.proofs.lemmas.Result.{err_from_is_err_and}
use Rattle.failure.proofs.HandedOn.{handed_ok}
use Rattle.jvm_model.specs.declared.reason.Refusal.{Refusal}
use Rattle.points_to.specs.Refusing.{IsNamed}
use Rattle.points_to.proofs.Ends.{no_room_refusing}
use Rattle.points_to.proofs.OutOfRoom.{handed_room}
use Rattle.points_to.proofs.solver.refuse.Goals as goal

pub returns-in_err-first-clause-end : goal.returns-in_err-first-clause-end
returns-in_err-first-clause-end c =
    let e = err_from_is_err_and c.from_residual.result c.from_residual.ensures.1 in
    rw (e.1, e.2) (no_room_refusing c.args.program.now c.args.refusals.call c.args.refusals.method c.in_err-first.field-0.0
    (handed_room c.first_refusal.result c.in_err-first.field-0.0 c.in_err-first.ensures.cases))

pub returns-in-Some-clause-end : goal.returns-in-Some-clause-end
returns-in-Some-clause-end c =
    let named = handed_ok _ c.first_refusal.result c.in_ok-first.first (IsNamed c.args.program.now c.args.refusals.call c.args.refusals.method) c.in_ok-first.ensures.cases c.first_refusal.ensures in
    subst (λ (o : Option Refusal). IsNamed c.args.program.now c.args.refusals.call c.args.refusals.method o) c.in-Some.is named

pub returns-in-None-clause-none : goal.returns-in-None-clause-none
returns-in-None-clause-none c =
    let named = handed_ok _ c.first_refusal.result c.in_ok-first.first (IsNamed c.args.program.now c.args.refusals.call c.args.refusals.method) c.in_ok-first.ensures.cases c.first_refusal.ensures in
    subst (λ (o : Option Refusal). IsNamed c.args.program.now c.args.refusals.call c.args.refusals.method o) c.in-None.is named
