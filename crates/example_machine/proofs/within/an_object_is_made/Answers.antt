use Rattle.example_machine.proofs.WithinRuns.{an_object_is_made}
use Rattle.example_machine.proofs.within.an_object_is_made.Goals as goal

pub returns : goal.returns
returns c = an_object_is_made
