use Rattle.program_laws.proofs.Decided.{fits_or_not}
use Rattle.program_laws.proofs.subtypes.fits_is_decided.Goals as goal

pub returns : goal.returns
returns c = fits_or_not
