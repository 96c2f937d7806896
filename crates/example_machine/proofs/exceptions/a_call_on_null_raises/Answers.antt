use Rattle.example_machine.proofs.ExceptionRuns.{a_call_on_null_raises}
use Rattle.example_machine.proofs.exceptions.a_call_on_null_raises.Goals as goal

pub returns : goal.returns
returns c = a_call_on_null_raises
