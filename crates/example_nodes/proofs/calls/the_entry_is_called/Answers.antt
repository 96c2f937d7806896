use Rattle.example_nodes.proofs.CallRuns.{the_entry_is_called}
use Rattle.example_nodes.proofs.calls.the_entry_is_called.Goals as goal

pub returns : goal.returns
returns c = the_entry_is_called
