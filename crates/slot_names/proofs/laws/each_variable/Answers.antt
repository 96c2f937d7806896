use Rattle.slot_names.proofs.EachVariable.{each_variable}
use Rattle.slot_names.proofs.laws.each_variable.Goals as goal

pub returns : goal.returns
returns c = each_variable
