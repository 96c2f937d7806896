use Rattle.example_nodes.proofs.LoweredCompared.{nodes_of_two_branch}
use Rattle.example_nodes.proofs.lowering_compared.nodes_of_two_branch.Goals as goal

pub returns : goal.returns
returns c = nodes_of_two_branch
