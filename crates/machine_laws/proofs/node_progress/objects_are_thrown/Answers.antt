use Rattle.machine_laws.proofs.Thrown.{throws_object}
use Rattle.machine_laws.proofs.node_progress.objects_are_thrown.Goals as goal

pub returns : goal.returns
returns c = throws_object
