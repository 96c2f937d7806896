use Rattle.example_nodes.proofs.LoweredCalls.{nodes_of_shuts}
use Rattle.example_nodes.proofs.lowering_calls.nodes_of_shuts.Goals as goal

pub returns : goal.returns
returns c = nodes_of_shuts
