use Rattle.example_nodes.proofs.LoweredTriggers.{nodes_of_makes_table}
use Rattle.example_nodes.proofs.lowering_triggers.nodes_of_makes_table.Goals as goal

pub returns : goal.returns
returns c = nodes_of_makes_table
