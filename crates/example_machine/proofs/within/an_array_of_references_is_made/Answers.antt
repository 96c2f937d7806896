use Rattle.example_machine.proofs.WithinArrays.{an_array_of_references_is_made}
use Rattle.example_machine.proofs.within.an_array_of_references_is_made.Goals as goal

pub returns : goal.returns
returns c = an_array_of_references_is_made
