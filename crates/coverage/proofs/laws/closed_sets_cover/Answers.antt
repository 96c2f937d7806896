use Rattle.std.proofs.Common.{IsTrue}
use Rattle.points_to_rules.specs.Facts.{Fact}
use Rattle.points_to_rules.specs.WholeMethods.{as_given}
use Rattle.coverage.proofs.Executions.{own_map, covers_all}
use Rattle.coverage.proofs.Refused.{calls_unrefused}
use Rattle.coverage.proofs.laws.closed_sets_cover.Goals as goal

pub returns : goal.returns
returns c = λ x given S program whole closed unrefused.
    covers_all x given (as_given given) (λ (f : Fact). IsTrue (S f)) (own_map given) closed whole (calls_unrefused x.program (as_given given) (λ (f : Fact). IsTrue (S f)) program whole unrefused)
