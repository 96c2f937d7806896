use Rattle.example_nodes.proofs.ExceptionRuns.{an_uncaught_exception_ends_the_program}
use Rattle.example_nodes.proofs.exceptions.an_uncaught_exception_ends_the_program.Goals as goal

pub returns : goal.returns
returns c = an_uncaught_exception_ends_the_program
