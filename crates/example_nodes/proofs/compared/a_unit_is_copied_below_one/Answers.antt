use Rattle.example_nodes.proofs.ComparedRuns.{a_unit_is_copied_below_one}
use Rattle.example_nodes.proofs.compared.a_unit_is_copied_below_one.Goals as goal

pub returns : goal.returns
returns c = a_unit_is_copied_below_one
