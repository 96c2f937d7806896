use Rattle.example_nodes.proofs.WithinTests.{a_class_is_loaded}
use Rattle.example_nodes.proofs.tests_within.a_class_is_loaded.Goals as goal

pub returns : goal.returns
returns c = a_class_is_loaded
