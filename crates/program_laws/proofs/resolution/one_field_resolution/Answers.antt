use Rattle.program_laws.proofs.Outcomes.{one_field_outcome}
use Rattle.program_laws.proofs.resolution.one_field_resolution.Goals as goal

pub returns : goal.returns
returns c = one_field_outcome
