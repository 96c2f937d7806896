use Rattle.example_machine.proofs.WithinTests.{a_size_raises}
use Rattle.example_machine.proofs.within.a_size_raises.Goals as goal

pub returns : goal.returns
returns c = a_size_raises
