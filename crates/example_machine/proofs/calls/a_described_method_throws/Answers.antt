use Rattle.example_machine.proofs.CallResults.{a_described_method_throws}
use Rattle.example_machine.proofs.calls.a_described_method_throws.Goals as goal

pub returns : goal.returns
returns c = a_described_method_throws
