use Rattle.example_nodes.proofs.ComparedRuns.{two_units_are_copied_below_one}
use Rattle.example_nodes.proofs.compared.two_units_are_copied_below_one.Goals as goal

pub returns : goal.returns
returns c = two_units_are_copied_below_one
