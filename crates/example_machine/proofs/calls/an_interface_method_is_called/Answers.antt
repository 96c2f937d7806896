use Rattle.example_machine.proofs.CallRuns.{an_interface_method_is_called}
use Rattle.example_machine.proofs.calls.an_interface_method_is_called.Goals as goal

pub returns : goal.returns
returns c = an_interface_method_is_called
