use Rattle.example_nodes.proofs.LoweredTriggers.{nodes_of_makes_ready}
use Rattle.example_nodes.proofs.lowering_triggers.nodes_of_makes_ready.Goals as goal

pub returns : goal.returns
returns c = nodes_of_makes_ready
