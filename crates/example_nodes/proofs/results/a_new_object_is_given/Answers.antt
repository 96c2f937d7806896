use Rattle.example_nodes.proofs.ResultRuns.{a_new_object_is_given}
use Rattle.example_nodes.proofs.results.a_new_object_is_given.Goals as goal

pub returns : goal.returns
returns c = a_new_object_is_given
