use Rattle.example_machine.proofs.WithinArrays.{a_division_raises}
use Rattle.example_machine.proofs.within.a_division_raises.Goals as goal

pub returns : goal.returns
returns c = a_division_raises
