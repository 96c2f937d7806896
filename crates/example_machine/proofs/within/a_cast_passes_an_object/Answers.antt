use Rattle.example_machine.proofs.WithinArrays.{a_cast_passes_an_object}
use Rattle.example_machine.proofs.within.a_cast_passes_an_object.Goals as goal

pub returns : goal.returns
returns c = a_cast_passes_an_object
