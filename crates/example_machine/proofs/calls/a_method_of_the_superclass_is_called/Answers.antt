use Rattle.example_machine.proofs.CallRuns.{a_method_of_the_superclass_is_called}
use Rattle.example_machine.proofs.calls.a_method_of_the_superclass_is_called.Goals as goal

pub returns : goal.returns
returns c = a_method_of_the_superclass_is_called
