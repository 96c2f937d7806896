use Rattle.slot_names.proofs.OneVariable.{one_variable}
use Rattle.slot_names.proofs.laws.one_variable.Goals as goal

pub returns : goal.returns
returns c = one_variable
