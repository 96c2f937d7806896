use Rattle.program_laws.proofs.Resolving.{method_outcome}
use Rattle.program_laws.proofs.each_resolution.each_method_resolution.Goals as goal

pub returns : goal.returns
returns c = method_outcome
