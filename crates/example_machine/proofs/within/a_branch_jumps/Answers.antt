use Rattle.example_machine.proofs.WithinRuns.{a_branch_jumps}
use Rattle.example_machine.proofs.within.a_branch_jumps.Goals as goal

pub returns : goal.returns
returns c = a_branch_jumps
