use Rattle.program_laws.proofs.Calls.{one_call_outcome}
use Rattle.program_laws.proofs.selection.one_selection.Goals as goal

pub returns : goal.returns
returns c = one_call_outcome
