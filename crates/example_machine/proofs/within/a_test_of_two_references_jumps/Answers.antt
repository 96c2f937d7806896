use Rattle.example_machine.proofs.WithinCompared.{a_test_of_two_references_jumps}
use Rattle.example_machine.proofs.within.a_test_of_two_references_jumps.Goals as goal

pub returns : goal.returns
returns c = a_test_of_two_references_jumps
