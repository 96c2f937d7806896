use Rattle.program_laws.proofs.SpecialTargets.{special_outcome}
use Rattle.program_laws.proofs.each_selection.each_special_call.Goals as goal

pub returns : goal.returns
returns c = special_outcome
