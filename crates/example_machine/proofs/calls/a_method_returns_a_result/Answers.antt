use Rattle.example_machine.proofs.CallRuns.{a_method_returns_a_result}
use Rattle.example_machine.proofs.calls.a_method_returns_a_result.Goals as goal

pub returns : goal.returns
returns c = a_method_returns_a_result
