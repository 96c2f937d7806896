use Rattle.lowering_reasons.proofs.Only.{either_then, either_else, sum_either}
use Rattle.lowering_reasons.proofs.mismatch.calls_mismatched.Goals as goal

pub returns-then-calls_other_kind : goal.returns-then-calls_other_kind
returns-then-calls_other_kind c = either_then c.calls_other_kind.result (sum_either _ _) c.if-calls_other_kind.true c.calls_other_kind.ensures

pub returns-else-calls_other_kind : goal.returns-else-calls_other_kind
returns-else-calls_other_kind c =
    either_else c.calls_other_kind.result c.calls_internal.result (sum_either _ _) c.if-calls_other_kind.false c.calls_other_kind.ensures c.calls_internal.ensures
