use Rattle.run_soundness.proofs.TrueReports.{safe_never_errs}
use Rattle.run_soundness.proofs.report_laws.safe_sites_never_err.Goals as goal

pub returns : goal.returns
returns c = safe_never_errs c.safe_stages_never_err.ensures
