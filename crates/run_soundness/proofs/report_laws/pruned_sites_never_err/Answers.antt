use Rattle.run_soundness.proofs.Verdicts.{closed_never_errs}
use Rattle.run_soundness.proofs.report_laws.pruned_sites_never_err.Goals as goal

pub returns : goal.returns
returns c = closed_never_errs
