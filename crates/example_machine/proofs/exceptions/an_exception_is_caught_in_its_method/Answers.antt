use Rattle.example_machine.proofs.ExceptionRuns.{an_exception_is_caught_in_its_method}
use Rattle.example_machine.proofs.exceptions.an_exception_is_caught_in_its_method.Goals as goal

pub returns : goal.returns
returns c = an_exception_is_caught_in_its_method
