use Rattle.program_laws.proofs.Outcomes.{one_method_outcome}
use Rattle.program_laws.proofs.resolution.one_method_resolution.Goals as goal

pub returns : goal.returns
returns c = one_method_outcome
