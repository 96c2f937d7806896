use Rattle.example_nodes.proofs.WithinTests.{a_branch_jumps}
use Rattle.example_nodes.proofs.tests_within.a_branch_jumps.Goals as goal

pub returns : goal.returns
returns c = a_branch_jumps
