use Rattle.example_machine.proofs.CallMore.{a_receiver_is_given_back}
use Rattle.example_machine.proofs.calls.a_receiver_is_given_back.Goals as goal

pub returns : goal.returns
returns c = a_receiver_is_given_back
