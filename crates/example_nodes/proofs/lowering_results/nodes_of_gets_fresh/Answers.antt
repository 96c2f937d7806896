use Rattle.example_nodes.proofs.LoweredResults.{nodes_of_gets_fresh}
use Rattle.example_nodes.proofs.lowering_results.nodes_of_gets_fresh.Goals as goal

pub returns : goal.returns
returns c = nodes_of_gets_fresh
