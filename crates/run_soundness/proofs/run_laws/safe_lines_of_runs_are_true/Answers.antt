use Rattle.run_soundness.proofs.Written.{reports_are_true}
use Rattle.run_soundness.proofs.run_laws.safe_lines_of_runs_are_true.Goals as goal

pub returns : goal.returns
returns c = λ words files status lines outcome reports none. reports_are_true c.safe_stages_never_err.ensures words files status lines outcome reports none
