use Rattle.example_machine.proofs.WithinTests.{a_class_is_loaded}
use Rattle.example_machine.proofs.within.a_class_is_loaded.Goals as goal

pub returns : goal.returns
returns c = a_class_is_loaded
