use Rattle.example_machine.proofs.InitialiserRuns.{an_initialiser_returns}
use Rattle.example_machine.proofs.initialisation.an_initialiser_returns.Goals as goal

pub returns : goal.returns
returns c = an_initialiser_returns
