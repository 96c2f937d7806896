use Rattle.machine_laws.proofs.NodeSteps.{objects_survive}
use Rattle.machine_laws.proofs.node_survival.objects_survive.Goals as goal

pub returns : goal.returns
returns c = objects_survive
