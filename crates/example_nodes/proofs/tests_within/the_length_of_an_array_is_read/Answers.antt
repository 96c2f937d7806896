use Rattle.example_nodes.proofs.WithinTests.{the_length_of_an_array_is_read}
use Rattle.example_nodes.proofs.tests_within.the_length_of_an_array_is_read.Goals as goal

pub returns : goal.returns
returns c = the_length_of_an_array_is_read
