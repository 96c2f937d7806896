use Rattle.example_nodes.proofs.WithinRuns.{a_field_is_read}
use Rattle.example_nodes.proofs.within.a_field_is_read.Goals as goal

pub returns : goal.returns
returns c = a_field_is_read
