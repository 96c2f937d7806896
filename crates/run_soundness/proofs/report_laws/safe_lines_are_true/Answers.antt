use Rattle.run_soundness.proofs.TrueReports.{lines_true}
use Rattle.run_soundness.proofs.report_laws.safe_lines_are_true.Goals as goal

pub returns : goal.returns
returns c = lines_true c.safe_stages_never_err.ensures
