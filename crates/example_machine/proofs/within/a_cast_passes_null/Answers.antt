use Rattle.example_machine.proofs.WithinArrays.{a_cast_passes_null}
use Rattle.example_machine.proofs.within.a_cast_passes_null.Goals as goal

pub returns : goal.returns
returns c = a_cast_passes_null
