use Rattle.example_nodes.proofs.ExceptionRuns.{an_exception_is_thrown}
use Rattle.example_nodes.proofs.exceptions.an_exception_is_thrown.Goals as goal

pub returns : goal.returns
returns c = an_exception_is_thrown
