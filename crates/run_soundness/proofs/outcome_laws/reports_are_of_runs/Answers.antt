use Rattle.run_soundness.proofs.Reported.{is_report}
use Rattle.run_soundness.proofs.outcome_laws.reports_are_of_runs.Goals as goal

pub returns : goal.returns
returns c = is_report
