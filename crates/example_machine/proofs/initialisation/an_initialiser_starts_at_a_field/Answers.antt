use Rattle.example_machine.proofs.InitialiserRuns.{an_initialiser_starts_at_a_field}
use Rattle.example_machine.proofs.initialisation.an_initialiser_starts_at_a_field.Goals as goal

pub returns : goal.returns
returns c = an_initialiser_starts_at_a_field
