use Rattle.example_nodes.proofs.CallRuns.{a_default_is_selected}
use Rattle.example_nodes.proofs.calls.a_default_is_selected.Goals as goal

pub returns : goal.returns
returns c = a_default_is_selected
