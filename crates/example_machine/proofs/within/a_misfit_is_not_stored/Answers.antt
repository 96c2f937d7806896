use Rattle.example_machine.proofs.WithinArrays.{a_misfit_is_not_stored}
use Rattle.example_machine.proofs.within.a_misfit_is_not_stored.Goals as goal

pub returns : goal.returns
returns c = a_misfit_is_not_stored
