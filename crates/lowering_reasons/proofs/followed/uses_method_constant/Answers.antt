use Rattle.lowering_reasons.specs.Judgements.{judged}
use Rattle.lowering_reasons.proofs.Unfollowed.{method_constant}
use Rattle.lowering_reasons.proofs.Only.{either_then, either_else}
use Rattle.lowering_reasons.proofs.followed.uses_method_constant.Goals as goal

pub returns-then-loads_method_constant : goal.returns-then-loads_method_constant
returns-then-loads_method_constant c =
    either_then c.loads_method_constant.result (method_constant (judged c.args.instruction)) c.if-loads_method_constant.true c.loads_method_constant.ensures

pub returns-else-loads_method_constant : goal.returns-else-loads_method_constant
returns-else-loads_method_constant c =
    either_else c.loads_method_constant.result c.calls_handle.result (method_constant (judged c.args.instruction)) c.if-loads_method_constant.false
    c.loads_method_constant.ensures c.calls_handle.ensures
