use Rattle.example_machine.proofs.WithinTests.{a_test_of_one_object_jumps}
use Rattle.example_machine.proofs.within.a_test_of_one_object_jumps.Goals as goal

pub returns : goal.returns
returns c = a_test_of_one_object_jumps
