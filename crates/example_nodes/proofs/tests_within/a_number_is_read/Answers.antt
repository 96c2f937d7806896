use Rattle.example_nodes.proofs.WithinTests.{a_number_is_read}
use Rattle.example_nodes.proofs.tests_within.a_number_is_read.Goals as goal

pub returns : goal.returns
returns c = a_number_is_read
