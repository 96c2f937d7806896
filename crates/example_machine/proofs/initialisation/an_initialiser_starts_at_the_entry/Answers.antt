use Rattle.example_machine.proofs.InitialiserRuns.{an_initialiser_starts_at_the_entry}
use Rattle.example_machine.proofs.initialisation.an_initialiser_starts_at_the_entry.Goals as goal

pub returns : goal.returns
returns c = an_initialiser_starts_at_the_entry
