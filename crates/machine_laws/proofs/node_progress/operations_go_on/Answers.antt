use Rattle.machine_laws.proofs.Operations.{operations_go_on}
use Rattle.machine_laws.proofs.node_progress.operations_go_on.Goals as goal

pub returns : goal.returns
returns c = operations_go_on
