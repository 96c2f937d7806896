use Rattle.example_nodes.proofs.RaiseRuns.{a_call_on_null_raises}
use Rattle.example_nodes.proofs.raises.a_call_on_null_raises.Goals as goal

pub returns : goal.returns
returns c = a_call_on_null_raises
