use Rattle.program_laws.proofs.FieldSearches.{field_outcome}
use Rattle.program_laws.proofs.each_resolution.each_field_resolution.Goals as goal

pub returns : goal.returns
returns c = field_outcome
