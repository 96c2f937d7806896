use Rattle.example_machine.proofs.CallResults.{a_primitive_is_given}
use Rattle.example_machine.proofs.calls.a_primitive_is_given.Goals as goal

pub returns : goal.returns
returns c = a_primitive_is_given
