use Rattle.example_nodes.proofs.ResultRuns.{a_primitive_is_given}
use Rattle.example_nodes.proofs.results.a_primitive_is_given.Goals as goal

pub returns : goal.returns
returns c = a_primitive_is_given
