use Rattle.example_nodes.proofs.LoweredTests.{nodes_of_branch}
use Rattle.example_nodes.proofs.lowering_tests.nodes_of_branch.Goals as goal

pub returns : goal.returns
returns c = nodes_of_branch
