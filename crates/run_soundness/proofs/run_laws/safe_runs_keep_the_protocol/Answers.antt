use Rattle.run_soundness.proofs.Written.{safe_runs_keep}
use Rattle.run_soundness.proofs.run_laws.safe_runs_keep_the_protocol.Goals as goal

pub returns : goal.returns
returns c = λ words files lines outcome none. safe_runs_keep c.safe_stages_never_err.ensures words files lines outcome none
