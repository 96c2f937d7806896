use Rattle.example_nodes.proofs.LoweredErrors.{nodes_of_makes_broken}
use Rattle.example_nodes.proofs.lowering_triggers.nodes_of_makes_broken.Goals as goal

pub returns : goal.returns
returns c = nodes_of_makes_broken
