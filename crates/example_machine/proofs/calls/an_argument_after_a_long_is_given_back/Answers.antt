use Rattle.example_machine.proofs.CallMore.{an_argument_after_a_long_is_given_back}
use Rattle.example_machine.proofs.calls.an_argument_after_a_long_is_given_back.Goals as goal

pub returns : goal.returns
returns c = an_argument_after_a_long_is_given_back
