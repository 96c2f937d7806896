use Rattle.std.proofs.Common.{Ok, Err}
use Rattle.lowering_reasons.specs.Judgements.{judged}
use Rattle.lowering_reasons.specs.Reasons.{LooksUpMethod}
use Rattle.lowering_reasons.proofs.Only.{none_such, only_here, refuted}
use Rattle.lowering_reasons.proofs.OtherKinds.{at_outcome, at_nothing, method_within, other_found, other_failed, other_never}
use Rattle.lowering_reasons.proofs.mismatch.calls_other_kind.Goals as goal

pub is_other_kind-requires : goal.is_other_kind-requires
is_other_kind-requires c =
    let j = judged c.args.instruction in
    let only = at_outcome (LooksUpMethod j) c.args.method _ (Ok c.in-Some-Ok.resolved) c.in-Some-Ok.is (rw c.in-Some-Ok.is at c.in-Some-Ok.field-0-is) c.requires in
    method_within j c.in-Some-Ok.resolved.0 (only_here (LooksUpMethod j) (Ok c.in-Some-Ok.resolved.0) only)

pub returns-in-Some-Ok : goal.returns-in-Some-Ok
returns-in-Some-Ok c =
    let j = judged c.args.instruction in
    let only = at_outcome (LooksUpMethod j) c.args.method _ (Ok c.in-Some-Ok.resolved) c.in-Some-Ok.is (rw c.in-Some-Ok.is at c.in-Some-Ok.field-0-is) c.requires in
    other_found j c.in-Some-Ok.resolved.0 c.is_other_kind.result only c.is_other_kind.ensures

pub returns-in-Some-Err : goal.returns-in-Some-Err
returns-in-Some-Err c =
    let j = judged c.args.instruction in
    let only = at_outcome (LooksUpMethod j) c.args.method _ (Err c.in-Some-Err.reason) c.in-Some-Err.is (rw c.in-Some-Err.is at c.in-Some-Err.field-0-is) c.requires in
    other_failed j c.in-Some-Err.reason c.is_reason.result only c.is_reason.ensures

pub returns-in-None : goal.returns-in-None
returns-in-None c =
    let j = judged c.args.instruction in
    refuted (other_never j (none_such (LooksUpMethod j) (at_nothing (LooksUpMethod j) c.args.method c.in-None.is c.requires)))
