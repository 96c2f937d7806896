use Rattle.example_nodes.proofs.LoweredCalls.{nodes_of_gets_same}
use Rattle.example_nodes.proofs.lowering_calls.nodes_of_gets_same.Goals as goal

pub returns : goal.returns
returns c = nodes_of_gets_same
