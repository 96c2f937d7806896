use Rattle.example_nodes.proofs.TriggerRuns.{an_initialiser_of_a_superclass_starts}
use Rattle.example_nodes.proofs.triggers.an_initialiser_of_a_superclass_starts.Goals as goal

pub returns : goal.returns
returns c = an_initialiser_of_a_superclass_starts
