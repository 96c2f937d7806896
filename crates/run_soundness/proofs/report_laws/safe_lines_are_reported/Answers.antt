use Rattle.run_soundness.proofs.TrueReports.{lines_reported}
use Rattle.run_soundness.proofs.report_laws.safe_lines_are_reported.Goals as goal

pub returns : goal.returns
returns c = lines_reported c.safe_stages_never_err.ensures
