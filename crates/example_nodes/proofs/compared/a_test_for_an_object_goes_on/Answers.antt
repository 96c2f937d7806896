use Rattle.example_nodes.proofs.ComparedRuns.{a_test_for_an_object_goes_on}
use Rattle.example_nodes.proofs.compared.a_test_for_an_object_goes_on.Goals as goal

pub returns : goal.returns
returns c = a_test_for_an_object_goes_on
