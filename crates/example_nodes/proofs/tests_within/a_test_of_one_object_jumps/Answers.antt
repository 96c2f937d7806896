use Rattle.example_nodes.proofs.WithinTests.{a_test_of_one_object_jumps}
use Rattle.example_nodes.proofs.tests_within.a_test_of_one_object_jumps.Goals as goal

pub returns : goal.returns
returns c = a_test_of_one_object_jumps
