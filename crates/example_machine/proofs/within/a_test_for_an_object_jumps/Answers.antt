use Rattle.example_machine.proofs.WithinCompared.{a_test_for_an_object_jumps}
use Rattle.example_machine.proofs.within.a_test_for_an_object_jumps.Goals as goal

pub returns : goal.returns
returns c = a_test_for_an_object_jumps
