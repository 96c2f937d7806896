use Rattle.example_machine.proofs.CallMore.{a_default_is_called_on_a_class}
use Rattle.example_machine.proofs.calls.a_default_is_called_on_a_class.Goals as goal

pub returns : goal.returns
returns c = a_default_is_called_on_a_class
