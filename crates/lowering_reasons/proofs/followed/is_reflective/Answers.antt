use Rattle.lowering_reasons.specs.Judgements.{judged}
use Rattle.lowering_reasons.proofs.Unfollowed.{reflective}
use Rattle.lowering_reasons.proofs.Only.{either_then, either_else}
use Rattle.lowering_reasons.proofs.followed.is_reflective.Goals as goal

pub returns-then-names_reflection : goal.returns-then-names_reflection
returns-then-names_reflection c = either_then c.names_reflection.result (reflective (judged c.args.instruction)) c.if-names_reflection.true c.names_reflection.ensures

pub returns-else-names_reflection : goal.returns-else-names_reflection
returns-else-names_reflection c =
    either_else c.names_reflection.result c.calls_reflection.result (reflective (judged c.args.instruction)) c.if-names_reflection.false c.names_reflection.ensures
    c.calls_reflection.ensures
