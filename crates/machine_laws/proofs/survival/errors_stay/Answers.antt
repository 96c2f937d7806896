use Rattle.machine_laws.proofs.Errors.{errors_stay}
use Rattle.machine_laws.proofs.survival.errors_stay.Goals as goal

pub returns : goal.returns
returns c = errors_stay
