use Rattle.example_nodes.proofs.InitialiserRuns.{an_exception_leaves_an_initialiser}
use Rattle.example_nodes.proofs.initialisation.an_exception_leaves_an_initialiser.Goals as goal

pub returns : goal.returns
returns c = an_exception_leaves_an_initialiser
