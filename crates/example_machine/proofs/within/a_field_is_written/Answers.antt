use Rattle.example_machine.proofs.WithinRuns.{a_field_is_written}
use Rattle.example_machine.proofs.within.a_field_is_written.Goals as goal

pub returns : goal.returns
returns c = a_field_is_written
