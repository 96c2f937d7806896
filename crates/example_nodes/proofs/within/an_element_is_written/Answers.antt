use Rattle.example_nodes.proofs.WithinRuns.{an_element_is_written}
use Rattle.example_nodes.proofs.within.an_element_is_written.Goals as goal

pub returns : goal.returns
returns c = an_element_is_written
