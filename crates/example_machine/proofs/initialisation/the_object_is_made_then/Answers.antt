use Rattle.example_machine.proofs.InitialiserRuns.{the_object_is_made_then}
use Rattle.example_machine.proofs.initialisation.the_object_is_made_then.Goals as goal

pub returns : goal.returns
returns c = the_object_is_made_then
