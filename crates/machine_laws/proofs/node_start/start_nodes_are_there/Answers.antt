use Rattle.machine_laws.proofs.StartNodes.{some_start}
use Rattle.machine_laws.proofs.node_start.start_nodes_are_there.Goals as goal

pub returns : goal.returns
returns c = some_start
