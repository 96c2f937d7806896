use Rattle.example_nodes.proofs.TriggerRuns.{an_initialiser_starts_at_a_call}
use Rattle.example_nodes.proofs.triggers.an_initialiser_starts_at_a_call.Goals as goal

pub returns : goal.returns
returns c = an_initialiser_starts_at_a_call
