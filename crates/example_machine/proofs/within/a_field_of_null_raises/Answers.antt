use Rattle.example_machine.proofs.WithinTests.{a_field_of_null_raises}
use Rattle.example_machine.proofs.within.a_field_of_null_raises.Goals as goal

pub returns : goal.returns
returns c = a_field_of_null_raises
