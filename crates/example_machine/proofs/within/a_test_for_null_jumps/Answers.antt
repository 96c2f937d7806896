use Rattle.example_machine.proofs.WithinTests.{a_test_for_null_jumps}
use Rattle.example_machine.proofs.within.a_test_for_null_jumps.Goals as goal

pub returns : goal.returns
returns c = a_test_for_null_jumps
