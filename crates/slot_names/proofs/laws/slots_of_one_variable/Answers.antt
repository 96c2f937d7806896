use Rattle.slot_names.proofs.Steps.{slots_alike}
use Rattle.slot_names.proofs.laws.slots_of_one_variable.Goals as goal

pub returns : goal.returns
returns c = slots_alike
