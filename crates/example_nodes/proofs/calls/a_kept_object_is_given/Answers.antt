use Rattle.example_nodes.proofs.CallRuns.{a_kept_object_is_given}
use Rattle.example_nodes.proofs.calls.a_kept_object_is_given.Goals as goal

pub returns : goal.returns
returns c = a_kept_object_is_given
