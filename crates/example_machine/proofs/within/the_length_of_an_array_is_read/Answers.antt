use Rattle.example_machine.proofs.WithinArrays.{the_length_of_an_array_is_read}
use Rattle.example_machine.proofs.within.the_length_of_an_array_is_read.Goals as goal

pub returns : goal.returns
returns c = the_length_of_an_array_is_read
