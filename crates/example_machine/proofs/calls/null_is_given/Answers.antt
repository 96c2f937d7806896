use Rattle.example_machine.proofs.CallResults.{null_is_given}
use Rattle.example_machine.proofs.calls.null_is_given.Goals as goal

pub returns : goal.returns
returns c = null_is_given
