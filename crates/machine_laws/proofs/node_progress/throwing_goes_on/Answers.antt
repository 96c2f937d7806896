use Rattle.program_laws.proofs.Decided.{fits_or_not}
use Rattle.machine_laws.proofs.Thrown.{throwing_goes_on}
use Rattle.machine_laws.proofs.node_progress.throwing_goes_on.Goals as goal

pub returns : goal.returns
returns c x = throwing_goes_on x (fits_or_not x.program)
