use Rattle.std.proofs.Common.{IsTrue, inl, inr}
use Rattle.points_to_rules.specs.Facts.{Fact}
use Rattle.points_to_rules.specs.WholeMethods.{as_given}
use Rattle.coverage.proofs.Changed.{changes_written}
use Rattle.coverage.proofs.Executions.{own_map}
use Rattle.coverage.proofs.Refused.{calls_unrefused}
use Rattle.coverage.proofs.laws.closed_sets_have_the_changes.Goals as goal

pub returns : goal.returns
returns c = λ x given S program whole closed unrefused.
    changes_written x given (as_given given) (λ (f : Fact). IsTrue (S f)) (own_map given) (λ premises fact instance hold. closed premises fact (inl instance) hold) (λ premises fact instance hold. closed premises fact (inr instance) hold) whole
    (calls_unrefused x.program (as_given given) (λ (f : Fact). IsTrue (S f)) program whole unrefused)
