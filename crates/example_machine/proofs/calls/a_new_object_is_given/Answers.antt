use Rattle.example_machine.proofs.CallResults.{a_new_object_is_given}
use Rattle.example_machine.proofs.calls.a_new_object_is_given.Goals as goal

pub returns : goal.returns
returns c = a_new_object_is_given
