use Rattle.std.proofs.Common.{IsTrue, ℕ}
use Rattle.report_spec.proofs.FirstStages.{safe_stays}
use Rattle.report_spec.proofs.laws.safe_stays.Goals as goal

pub returns : goal.returns
returns c = λ safe at_limit stages more stage v le x y.
    safe_stays (λ (n : ℕ). IsTrue (safe n)) (λ (n : ℕ). IsTrue (at_limit n)) stages more stage le v x y
