use Rattle.example_machine.proofs.CallResults.{a_kept_object_is_given}
use Rattle.example_machine.proofs.calls.a_kept_object_is_given.Goals as goal

pub returns : goal.returns
returns c = a_kept_object_is_given
