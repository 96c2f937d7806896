use Rattle.run_soundness.proofs.Written.{written_reported}
use Rattle.run_soundness.proofs.run_laws.written_safe_lines_are_reported.Goals as goal

pub returns : goal.returns
returns c = λ words files status lines outcome line stands says. written_reported c.safe_stages_never_err.ensures words files status lines outcome line stands says
