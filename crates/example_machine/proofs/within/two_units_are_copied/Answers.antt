use Rattle.example_machine.proofs.WithinUnits.{two_units_are_copied}
use Rattle.example_machine.proofs.within.two_units_are_copied.Goals as goal

pub returns : goal.returns
returns c = two_units_are_copied
