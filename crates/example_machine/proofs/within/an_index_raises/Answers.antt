use Rattle.example_machine.proofs.WithinTests.{an_index_raises}
use Rattle.example_machine.proofs.within.an_index_raises.Goals as goal

pub returns : goal.returns
returns c = an_index_raises
