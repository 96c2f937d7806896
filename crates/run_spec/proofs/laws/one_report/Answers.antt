use Rattle.run_spec.proofs.OneOutcome.{report_same}
use Rattle.run_spec.proofs.laws.one_report.Goals as goal

pub returns : goal.returns
returns c = report_same
