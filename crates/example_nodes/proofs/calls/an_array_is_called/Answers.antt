use Rattle.example_nodes.proofs.CallRuns.{an_array_is_called}
use Rattle.example_nodes.proofs.calls.an_array_is_called.Goals as goal

pub returns : goal.returns
returns c = an_array_is_called
