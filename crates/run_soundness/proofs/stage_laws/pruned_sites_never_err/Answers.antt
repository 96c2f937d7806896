use Rattle.std.proofs.Common.{IsTrue}
use Rattle.std.specs.List.{Contains}
use Rattle.points_to_rules.specs.Facts.{Fact}
use Rattle.points_to_rules.specs.WholeMethods.{as_given}
use Rattle.coverage.proofs.Executions.{own_map}
use Rattle.coverage.proofs.Refused.{calls_unrefused}
use Rattle.run_soundness.proofs.Words.{never_errs}
use Rattle.run_soundness.proofs.stage_laws.pruned_sites_never_err.Goals as goal

pub returns-clause-by_test : goal.returns-clause-by_test
returns-clause-by_test c = λ x given S program whole closed unrefused.
    never_errs x given (as_given given) (λ (f : Fact). IsTrue (S f)) (own_map given) closed whole (calls_unrefused x.program (as_given given) (λ (f : Fact). IsTrue (S f)) program whole unrefused)

pub returns-clause-by_list : goal.returns-clause-by_list
returns-clause-by_list c = λ x given facts program whole closed unrefused.
    never_errs x given (as_given given) (Contains facts) (own_map given) closed whole (calls_unrefused x.program (as_given given) (Contains facts) program whole unrefused)
