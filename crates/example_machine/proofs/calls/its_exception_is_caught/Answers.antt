use Rattle.example_machine.proofs.CallResults.{its_exception_is_caught}
use Rattle.example_machine.proofs.calls.its_exception_is_caught.Goals as goal

pub returns : goal.returns
returns c = its_exception_is_caught
