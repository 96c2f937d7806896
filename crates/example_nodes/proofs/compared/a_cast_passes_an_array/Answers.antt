use Rattle.example_nodes.proofs.ComparedRuns.{a_cast_passes_an_array}
use Rattle.example_nodes.proofs.compared.a_cast_passes_an_array.Goals as goal

pub returns : goal.returns
returns c = a_cast_passes_an_array
