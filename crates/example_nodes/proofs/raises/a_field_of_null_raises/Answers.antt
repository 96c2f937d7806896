use Rattle.example_nodes.proofs.RaiseRuns.{a_field_of_null_raises}
use Rattle.example_nodes.proofs.raises.a_field_of_null_raises.Goals as goal

pub returns : goal.returns
returns c = a_field_of_null_raises
