use Rattle.lowering_reasons.specs.Judgements.{judged}
use Rattle.lowering_reasons.proofs.Unfollowed.{threads}
use Rattle.lowering_reasons.proofs.Only.{either_then, either_else}
use Rattle.lowering_reasons.proofs.followed.uses_threads.Goals as goal

pub returns-then-names_threads : goal.returns-then-names_threads
returns-then-names_threads c = either_then c.names_threads.result (threads (judged c.args.instruction)) c.if-names_threads.true c.names_threads.ensures

pub returns-else-names_threads : goal.returns-else-names_threads
returns-else-names_threads c =
    either_else c.names_threads.result c.calls_waiting.result (threads (judged c.args.instruction)) c.if-names_threads.false c.names_threads.ensures c.calls_waiting.ensures
