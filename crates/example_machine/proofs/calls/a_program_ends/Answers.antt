use Rattle.example_machine.proofs.CallEnds.{a_program_ends}
use Rattle.example_machine.proofs.calls.a_program_ends.Goals as goal

pub returns : goal.returns
returns c = a_program_ends
