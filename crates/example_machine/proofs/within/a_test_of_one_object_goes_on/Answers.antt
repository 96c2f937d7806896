use Rattle.example_machine.proofs.WithinCompared.{a_test_of_one_object_goes_on}
use Rattle.example_machine.proofs.within.a_test_of_one_object_goes_on.Goals as goal

pub returns : goal.returns
returns c = a_test_of_one_object_goes_on
