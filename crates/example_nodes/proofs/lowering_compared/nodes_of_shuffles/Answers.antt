use Rattle.example_nodes.proofs.LoweredCompared.{nodes_of_shuffles}
use Rattle.example_nodes.proofs.lowering_compared.nodes_of_shuffles.Goals as goal

pub returns : goal.returns
returns c = nodes_of_shuffles
