use Rattle.example_nodes.proofs.LoweredTests.{nodes_of_first_number}
use Rattle.example_nodes.proofs.lowering_tests.nodes_of_first_number.Goals as goal

pub returns : goal.returns
returns c = nodes_of_first_number
