use Rattle.machine_laws.proofs.Starts.{triggers_go_on}
use Rattle.machine_laws.proofs.node_progress.triggers_go_on.Goals as goal

pub returns : goal.returns
returns c = triggers_go_on
