use Rattle.example_machine.proofs.ExceptionRuns.{an_uncaught_exception_ends_the_program}
use Rattle.example_machine.proofs.exceptions.an_uncaught_exception_ends_the_program.Goals as goal

pub returns : goal.returns
returns c = an_uncaught_exception_ends_the_program
