use Rattle.run_soundness.proofs.OwnSites.{own_never_err}
use Rattle.run_soundness.proofs.report_laws.safe_reports_keep_the_protocol.Goals as goal

pub returns : goal.returns
returns c = own_never_err c.safe_stages_never_err.ensures
