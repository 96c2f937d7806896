use Rattle.example_machine.proofs.WithinRuns.{a_constant_is_pushed}
use Rattle.example_machine.proofs.within.a_constant_is_pushed.Goals as goal

pub returns : goal.returns
returns c = a_constant_is_pushed
