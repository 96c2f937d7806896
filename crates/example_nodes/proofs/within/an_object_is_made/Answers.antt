use Rattle.example_nodes.proofs.WithinRuns.{an_object_is_made}
use Rattle.example_nodes.proofs.within.an_object_is_made.Goals as goal

pub returns : goal.returns
returns c = an_object_is_made
