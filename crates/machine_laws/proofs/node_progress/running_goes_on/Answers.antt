use Rattle.program_laws.proofs.Decided.{subtype_or_not}
use Rattle.machine_laws.proofs.Running.{running_goes_on}
use Rattle.machine_laws.proofs.node_progress.running_goes_on.Goals as goal

pub returns : goal.returns
returns c x = running_goes_on x (subtype_or_not x.program)
