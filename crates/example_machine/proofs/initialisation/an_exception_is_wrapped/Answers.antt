use Rattle.example_machine.proofs.InitialiserRuns.{an_exception_is_wrapped}
use Rattle.example_machine.proofs.initialisation.an_exception_is_wrapped.Goals as goal

pub returns : goal.returns
returns c = an_exception_is_wrapped
