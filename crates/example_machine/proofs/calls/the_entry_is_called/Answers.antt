use Rattle.example_machine.proofs.CallEnds.{the_entry_is_called}
use Rattle.example_machine.proofs.calls.the_entry_is_called.Goals as goal

pub returns : goal.returns
returns c = the_entry_is_called
