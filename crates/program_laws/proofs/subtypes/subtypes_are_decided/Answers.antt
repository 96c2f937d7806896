use Rattle.program_laws.proofs.Decided.{subtype_or_not}
use Rattle.program_laws.proofs.subtypes.subtypes_are_decided.Goals as goal

pub returns : goal.returns
returns c = subtype_or_not
