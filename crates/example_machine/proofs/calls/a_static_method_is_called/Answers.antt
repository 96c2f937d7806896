use Rattle.example_machine.proofs.CallRuns.{a_static_method_is_called}
use Rattle.example_machine.proofs.calls.a_static_method_is_called.Goals as goal

pub returns : goal.returns
returns c = a_static_method_is_called
