use Rattle.example_nodes.proofs.LoweredThrows.{nodes_of_misfit}
use Rattle.example_nodes.proofs.lowering_throws.nodes_of_misfit.Goals as goal

pub returns : goal.returns
returns c = nodes_of_misfit
