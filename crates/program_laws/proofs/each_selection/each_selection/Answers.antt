use Rattle.program_laws.proofs.CallOutcomes.{call_outcome}
use Rattle.program_laws.proofs.each_selection.each_selection.Goals as goal

pub returns : goal.returns
returns c = call_outcome
