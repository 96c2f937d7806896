use Rattle.example_nodes.proofs.InitialiserRuns.{an_initialiser_starts}
use Rattle.example_nodes.proofs.initialisation.an_initialiser_starts.Goals as goal

pub returns : goal.returns
returns c = an_initialiser_starts
