use Rattle.example_nodes.proofs.RaiseRuns.{a_division_raises}
use Rattle.example_nodes.proofs.raises.a_division_raises.Goals as goal

pub returns : goal.returns
returns c = a_division_raises
