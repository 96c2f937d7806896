use Rattle.example_machine.proofs.WithinUnits.{two_units_are_swapped}
use Rattle.example_machine.proofs.within.two_units_are_swapped.Goals as goal

pub returns : goal.returns
returns c = two_units_are_swapped
