use Rattle.example_machine.proofs.WithinTests.{a_throw_of_null_raises}
use Rattle.example_machine.proofs.within.a_throw_of_null_raises.Goals as goal

pub returns : goal.returns
returns c = a_throw_of_null_raises
