use Rattle.machine_laws.proofs.NodeSteps.{errors_stay}
use Rattle.machine_laws.proofs.node_survival.errors_stay.Goals as goal

pub returns : goal.returns
returns c = errors_stay
