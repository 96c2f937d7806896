use Rattle.machine_nodes.proofs.GoingOn.{goes_on}
use Rattle.machine_nodes.proofs.laws.executions_go_on.Goals as goal

pub returns : goal.returns
returns c = goes_on
