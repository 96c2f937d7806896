use Rattle.example_machine.proofs.InitialiserRuns.{a_failed_class_is_denied}
use Rattle.example_machine.proofs.initialisation.a_failed_class_is_denied.Goals as goal

pub returns : goal.returns
returns c = a_failed_class_is_denied
