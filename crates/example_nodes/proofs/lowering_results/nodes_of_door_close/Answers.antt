use Rattle.example_nodes.proofs.LoweredResults.{nodes_of_door_close}
use Rattle.example_nodes.proofs.lowering_results.nodes_of_door_close.Goals as goal

pub returns : goal.returns
returns c = nodes_of_door_close
