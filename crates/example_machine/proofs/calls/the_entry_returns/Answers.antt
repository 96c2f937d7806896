use Rattle.example_machine.proofs.CallEnds.{the_entry_returns}
use Rattle.example_machine.proofs.calls.the_entry_returns.Goals as goal

pub returns : goal.returns
returns c = the_entry_returns
