use Rattle.example_machine.proofs.WithinTests.{a_number_is_read}
use Rattle.example_machine.proofs.within.a_number_is_read.Goals as goal

pub returns : goal.returns
returns c = a_number_is_read
