use Rattle.example_machine.proofs.CallResults.{nothing_is_given}
use Rattle.example_machine.proofs.calls.nothing_is_given.Goals as goal

pub returns : goal.returns
returns c = nothing_is_given
