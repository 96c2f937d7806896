use Rattle.example_machine.proofs.CallRuns.{an_override_is_selected}
use Rattle.example_machine.proofs.calls.an_override_is_selected.Goals as goal

pub returns : goal.returns
returns c = an_override_is_selected
