use Rattle.example_nodes.proofs.WithinTests.{a_test_for_null_goes_on}
use Rattle.example_nodes.proofs.tests_within.a_test_for_null_goes_on.Goals as goal

pub returns : goal.returns
returns c = a_test_for_null_goes_on
