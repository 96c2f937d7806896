use Rattle.std.proofs.Common.{inl, inr}
use Rattle.std.specs.List.{Contains}
use Rattle.points_to_rules.specs.WholeMethods.{as_given}
use Rattle.coverage.proofs.Changed.{changes_written}
use Rattle.coverage.proofs.Executions.{own_map}
use Rattle.coverage.proofs.Refused.{calls_unrefused}
use Rattle.coverage.proofs.laws.closed_lists_have_the_changes.Goals as goal

pub returns : goal.returns
returns c = λ x given facts program whole closed unrefused.
    changes_written x given (as_given given) (Contains facts) (own_map given) (λ premises fact instance hold. closed premises fact (inl instance) hold) (λ premises fact instance hold. closed premises fact (inr instance) hold) whole
    (calls_unrefused x.program (as_given given) (Contains facts) program whole unrefused)
