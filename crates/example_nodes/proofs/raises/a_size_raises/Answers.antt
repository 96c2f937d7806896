use Rattle.example_nodes.proofs.RaiseRuns.{a_size_raises}
use Rattle.example_nodes.proofs.raises.a_size_raises.Goals as goal

pub returns : goal.returns
returns c = a_size_raises
