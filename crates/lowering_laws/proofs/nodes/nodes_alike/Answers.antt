use Rattle.lowering_laws.proofs.AlikeNodes.{lowered_once}
use Rattle.lowering_laws.proofs.nodes.nodes_alike.Goals as goal

pub returns : goal.returns
returns c = lowered_once
