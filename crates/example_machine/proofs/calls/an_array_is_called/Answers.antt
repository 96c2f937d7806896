use Rattle.example_machine.proofs.CallResults.{an_array_is_called}
use Rattle.example_machine.proofs.calls.an_array_is_called.Goals as goal

pub returns : goal.returns
returns c = an_array_is_called
