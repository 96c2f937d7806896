use Rattle.machine_laws.proofs.Starts.{enters_it, start_ends}
use Rattle.machine_laws.proofs.node_progress.start_goes_on.Goals as goal

pub returns : goal.returns
returns c = record { calls = enters_it; ends = start_ends }
