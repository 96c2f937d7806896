use Rattle.run_soundness.proofs.TrueReports.{sites_true}
use Rattle.run_soundness.proofs.report_laws.safe_reports_are_true.Goals as goal

pub returns : goal.returns
returns c = sites_true c.safe_stages_never_err.ensures
