use Rattle.machine_laws.proofs.ProgressStarts.{enters_it, ends_it}
use Rattle.machine_laws.proofs.progress.start_goes_on.Goals as goal

pub returns : goal.returns
returns c = record { calls = enters_it; ends = ends_it }
