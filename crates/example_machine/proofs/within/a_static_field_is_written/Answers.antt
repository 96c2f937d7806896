use Rattle.example_machine.proofs.WithinRuns.{a_static_field_is_written}
use Rattle.example_machine.proofs.within.a_static_field_is_written.Goals as goal

pub returns : goal.returns
returns c = a_static_field_is_written
