use Rattle.example_nodes.proofs.ComparedRuns.{two_units_are_swapped}
use Rattle.example_nodes.proofs.compared.two_units_are_swapped.Goals as goal

pub returns : goal.returns
returns c = two_units_are_swapped
