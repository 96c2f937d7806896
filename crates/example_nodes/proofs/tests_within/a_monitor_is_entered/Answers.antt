use Rattle.example_nodes.proofs.WithinTests.{a_monitor_is_entered}
use Rattle.example_nodes.proofs.tests_within.a_monitor_is_entered.Goals as goal

pub returns : goal.returns
returns c = a_monitor_is_entered
