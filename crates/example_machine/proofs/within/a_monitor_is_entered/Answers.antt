use Rattle.example_machine.proofs.WithinTests.{a_monitor_is_entered}
use Rattle.example_machine.proofs.within.a_monitor_is_entered.Goals as goal

pub returns : goal.returns
returns c = a_monitor_is_entered
