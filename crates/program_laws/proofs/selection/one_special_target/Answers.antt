use Rattle.program_laws.proofs.SpecialCalls.{one_special_outcome}
use Rattle.program_laws.proofs.selection.one_special_target.Goals as goal

pub returns : goal.returns
returns c = one_special_outcome
