use Rattle.std.proofs.Common.{IsTrue, ℕ}
use Rattle.report_spec.proofs.FirstStages.{some_verdict, verdict_is_one}
use Rattle.report_spec.proofs.laws.one_verdict.Goals as goal

pub returns-clause-some : goal.returns-clause-some
returns-clause-some c = some_verdict

pub returns-clause-one : goal.returns-clause-one
returns-clause-one c = λ safe at_limit stages v u x y. verdict_is_one (λ (stage : ℕ). IsTrue (safe stage)) (λ (stage : ℕ). IsTrue (at_limit stage)) stages v u x y
