use Rattle.example_nodes.proofs.InitialiserRuns.{a_failed_class_is_denied}
use Rattle.example_nodes.proofs.initialisation.a_failed_class_is_denied.Goals as goal

pub returns : goal.returns
returns c = a_failed_class_is_denied
