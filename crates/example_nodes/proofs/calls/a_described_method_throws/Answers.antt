use Rattle.example_nodes.proofs.CallRuns.{a_described_method_throws}
use Rattle.example_nodes.proofs.calls.a_described_method_throws.Goals as goal

pub returns : goal.returns
returns c = a_described_method_throws
