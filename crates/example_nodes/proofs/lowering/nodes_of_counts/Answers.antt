use Rattle.example_nodes.proofs.LoweredRuns.{nodes_of_counts}
use Rattle.example_nodes.proofs.lowering.nodes_of_counts.Goals as goal

pub returns : goal.returns
returns c = nodes_of_counts
