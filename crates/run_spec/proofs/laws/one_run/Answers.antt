use Rattle.run_spec.proofs.OneRun.{run_same}
use Rattle.run_spec.proofs.laws.one_run.Goals as goal

pub returns : goal.returns
returns c = λ words files x y differ program a b. run_same words files x y differ program a b
