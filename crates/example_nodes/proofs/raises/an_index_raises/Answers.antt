use Rattle.example_nodes.proofs.RaiseRuns.{an_index_raises}
use Rattle.example_nodes.proofs.raises.an_index_raises.Goals as goal

pub returns : goal.returns
returns c = an_index_raises
