use Rattle.example_nodes.proofs.ComparedRuns.{two_units_are_copied}
use Rattle.example_nodes.proofs.compared.two_units_are_copied.Goals as goal

pub returns : goal.returns
returns c = two_units_are_copied
