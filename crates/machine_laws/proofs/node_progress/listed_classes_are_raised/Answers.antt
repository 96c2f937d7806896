use Rattle.machine_laws.proofs.Thrown.{raises_listed}
use Rattle.machine_laws.proofs.node_progress.listed_classes_are_raised.Goals as goal

pub returns : goal.returns
returns c = raises_listed
