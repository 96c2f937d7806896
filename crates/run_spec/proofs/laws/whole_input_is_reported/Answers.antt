use Rattle.run_spec.proofs.WholeInputs.{whole_is_reported}
use Rattle.run_spec.proofs.laws.whole_input_is_reported.Goals as goal

pub returns : goal.returns
returns c = whole_is_reported
