use Rattle.machine_laws.proofs.ProgressStarts.{triggers_go_on}
use Rattle.machine_laws.proofs.progress.triggers_go_on.Goals as goal

pub returns : goal.returns
returns c = triggers_go_on
