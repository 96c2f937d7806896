use Rattle.example_machine.proofs.WithinRuns.{a_primitive_field_is_read}
use Rattle.example_machine.proofs.within.a_primitive_field_is_read.Goals as goal

pub returns : goal.returns
returns c = a_primitive_field_is_read
