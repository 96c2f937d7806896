use Rattle.example_nodes.proofs.RaiseRuns.{a_cast_raises}
use Rattle.example_nodes.proofs.raises.a_cast_raises.Goals as goal

pub returns : goal.returns
returns c = a_cast_raises
