use Rattle.example_nodes.proofs.ComparedRuns.{a_test_for_an_object_jumps}
use Rattle.example_nodes.proofs.compared.a_test_for_an_object_jumps.Goals as goal

pub returns : goal.returns
returns c = a_test_for_an_object_jumps
