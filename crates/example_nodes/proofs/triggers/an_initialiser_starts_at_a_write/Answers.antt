use Rattle.example_nodes.proofs.TriggerRuns.{an_initialiser_starts_at_a_write}
use Rattle.example_nodes.proofs.triggers.an_initialiser_starts_at_a_write.Goals as goal

pub returns : goal.returns
returns c = an_initialiser_starts_at_a_write
