use Rattle.example_machine.proofs.WithinRuns.{a_wide_increment_advances}
use Rattle.example_machine.proofs.within.a_wide_increment_advances.Goals as goal

pub returns : goal.returns
returns c = a_wide_increment_advances
