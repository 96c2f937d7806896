use Rattle.example_machine.proofs.WithinRuns.{a_branch_goes_on}
use Rattle.example_machine.proofs.within.a_branch_goes_on.Goals as goal

pub returns : goal.returns
returns c = a_branch_goes_on
