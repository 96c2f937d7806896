use Rattle.run_spec.proofs.OneOutcome.{status_same}
use Rattle.run_spec.proofs.laws.one_status.Goals as goal

pub returns : goal.returns
returns c = status_same
