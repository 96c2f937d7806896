use Rattle.example_machine.proofs.CallChoices.{a_native_method_is_called}
use Rattle.example_machine.proofs.calls.a_native_method_is_called.Goals as goal

pub returns : goal.returns
returns c = a_native_method_is_called
