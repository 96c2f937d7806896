use Rattle.example_nodes.proofs.LoweredTriggers.{nodes_of_makes_late}
use Rattle.example_nodes.proofs.lowering_triggers.nodes_of_makes_late.Goals as goal

pub returns : goal.returns
returns c = nodes_of_makes_late
