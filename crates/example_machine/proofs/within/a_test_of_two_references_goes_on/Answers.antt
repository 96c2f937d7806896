use Rattle.example_machine.proofs.WithinTests.{a_test_of_two_references_goes_on}
use Rattle.example_machine.proofs.within.a_test_of_two_references_goes_on.Goals as goal

pub returns : goal.returns
returns c = a_test_of_two_references_goes_on
