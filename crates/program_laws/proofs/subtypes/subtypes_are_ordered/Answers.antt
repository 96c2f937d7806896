use Rattle.program_laws.proofs.Chains.{ordered}
use Rattle.program_laws.proofs.subtypes.subtypes_are_ordered.Goals as goal

pub returns : goal.returns
returns c = ordered
