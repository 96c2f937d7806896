use Rattle.example_nodes.proofs.WithinRuns.{a_cast_passes_an_object}
use Rattle.example_nodes.proofs.within.a_cast_passes_an_object.Goals as goal

pub returns : goal.returns
returns c = a_cast_passes_an_object
