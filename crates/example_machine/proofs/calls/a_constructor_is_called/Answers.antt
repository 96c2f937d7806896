use Rattle.example_machine.proofs.CallMore.{a_constructor_is_called}
use Rattle.example_machine.proofs.calls.a_constructor_is_called.Goals as goal

pub returns : goal.returns
returns c = a_constructor_is_called
