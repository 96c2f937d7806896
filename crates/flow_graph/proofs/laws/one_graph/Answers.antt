use Rattle.flow_graph.proofs.OneGraph.{one_told}
use Rattle.flow_graph.proofs.laws.one_graph.Goals as goal

pub returns : goal.returns
returns c = one_told
