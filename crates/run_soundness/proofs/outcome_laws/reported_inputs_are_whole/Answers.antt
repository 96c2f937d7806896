use Rattle.run_soundness.proofs.Reported.{is_whole}
use Rattle.run_soundness.proofs.outcome_laws.reported_inputs_are_whole.Goals as goal

pub returns : goal.returns
returns c = is_whole
