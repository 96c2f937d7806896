use Rattle.std.proofs.Common.{Err, sym, ◌∙◌}
use Rattle.std.proofs.lemmas.Bool.{false≢true}
use Rattle.lowering_reasons.specs.Judgements.{judged}
use Rattle.lowering_reasons.specs.Reasons.{HasTarget, LooksUpMethod}
use Rattle.lowering_reasons.proofs.Dispatch.{target_failed, target_matched, target_never}
use Rattle.lowering_reasons.proofs.Only.{only_none}
use Rattle.lowering_reasons.proofs.OtherKinds.{at_outcome, at_nothing}
use Rattle.lowering_reasons.proofs.targets.target_of.Goals as goal

pub returns-then-mismatched : goal.returns-then-mismatched
returns-then-mismatched c =
    let j = judged c.args.instruction in
    only_none (HasTarget j) (λ t has. target_matched j t has (c.requires.mismatched.0 c.if-mismatched.true))

pub resolved_target-requires-clause-matched : goal.resolved_target-requires-clause-matched
resolved_target-requires-clause-matched c = λ mismatch. false≢true (sym c.if-mismatched.false ∙ c.requires.mismatched.1 mismatch)

pub returns-in-Some-Err : goal.returns-in-Some-Err
returns-in-Some-Err c =
    let j = judged c.args.instruction in
    let only = at_outcome (LooksUpMethod j) c.args.method _ (Err c.in-Some-Err.field-0-0) c.in-Some-Err.is (rw c.in-Some-Err.is at c.in-Some-Err.field-0-is) c.requires.method in
    only_none (HasTarget j) (target_failed j c.in-Some-Err.field-0-0 only)

pub returns-in-None : goal.returns-in-None
returns-in-None c =
    let j = judged c.args.instruction in
    only_none (HasTarget j) (target_never j (at_nothing (LooksUpMethod j) c.args.method c.in-None.is c.requires.method))
