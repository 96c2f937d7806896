use Rattle.example_machine.proofs.ExceptionRuns.{an_exception_is_thrown}
use Rattle.example_machine.proofs.exceptions.an_exception_is_thrown.Goals as goal

pub returns : goal.returns
returns c = an_exception_is_thrown
