use Rattle.example_machine.proofs.CallResults.{an_argument_is_given_back}
use Rattle.example_machine.proofs.calls.an_argument_is_given_back.Goals as goal

pub returns : goal.returns
returns c = an_argument_is_given_back
