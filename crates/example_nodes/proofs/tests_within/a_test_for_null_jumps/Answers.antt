use Rattle.example_nodes.proofs.WithinTests.{a_test_for_null_jumps}
use Rattle.example_nodes.proofs.tests_within.a_test_for_null_jumps.Goals as goal

pub returns : goal.returns
returns c = a_test_for_null_jumps
