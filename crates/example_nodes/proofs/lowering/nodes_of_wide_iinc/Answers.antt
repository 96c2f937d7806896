use Rattle.example_nodes.proofs.LoweredRuns.{nodes_of_wide_iinc}
use Rattle.example_nodes.proofs.lowering.nodes_of_wide_iinc.Goals as goal

pub returns : goal.returns
returns c = nodes_of_wide_iinc
