use Rattle.example_machine.proofs.InitialiserRuns.{an_initialiser_returns_to_the_start}
use Rattle.example_machine.proofs.initialisation.an_initialiser_returns_to_the_start.Goals as goal

pub returns : goal.returns
returns c = an_initialiser_returns_to_the_start
