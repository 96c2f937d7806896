use Rattle.example_machine.proofs.WithinArrays.{an_argument_is_read}
use Rattle.example_machine.proofs.within.an_argument_is_read.Goals as goal

pub returns : goal.returns
returns c = an_argument_is_read
