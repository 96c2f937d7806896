use Rattle.example_nodes.proofs.CallRuns.{a_program_ends}
use Rattle.example_nodes.proofs.calls.a_program_ends.Goals as goal

pub returns : goal.returns
returns c = a_program_ends
