use Rattle.example_nodes.proofs.LoweredResults.{nodes_of_closes_by_interface}
use Rattle.example_nodes.proofs.lowering_results.nodes_of_closes_by_interface.Goals as goal

pub returns : goal.returns
returns c = nodes_of_closes_by_interface
