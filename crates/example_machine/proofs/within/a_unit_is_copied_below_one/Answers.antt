use Rattle.example_machine.proofs.WithinUnits.{a_unit_is_copied_below_one}
use Rattle.example_machine.proofs.within.a_unit_is_copied_below_one.Goals as goal

pub returns : goal.returns
returns c = a_unit_is_copied_below_one
