use Rattle.example_nodes.proofs.ResultRuns.{null_is_given}
use Rattle.example_nodes.proofs.results.null_is_given.Goals as goal

pub returns : goal.returns
returns c = null_is_given
