use Rattle.example_nodes.proofs.LoweredCompared.{nodes_of_null_jump}
use Rattle.example_nodes.proofs.lowering_compared.nodes_of_null_jump.Goals as goal

pub returns : goal.returns
returns c = nodes_of_null_jump
