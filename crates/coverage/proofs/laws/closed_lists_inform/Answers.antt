use Rattle.std.specs.List.{Contains}
use Rattle.points_to_rules.specs.WholeMethods.{as_given}
use Rattle.coverage.proofs.Executions.{own_map}
use Rattle.coverage.proofs.Refused.{calls_unrefused}
use Rattle.coverage.proofs.Uses.{informs_all}
use Rattle.coverage.proofs.laws.closed_lists_inform.Goals as goal

pub returns : goal.returns
returns c = λ x given facts program whole closed unrefused.
    informs_all x given (as_given given) (Contains facts) (own_map given) closed whole (calls_unrefused x.program (as_given given) (Contains facts) program whole unrefused)
