use Rattle.example_nodes.proofs.WithinTests.{a_lookup_goes_to_a_target}
use Rattle.example_nodes.proofs.tests_within.a_lookup_goes_to_a_target.Goals as goal

pub returns : goal.returns
returns c = a_lookup_goes_to_a_target
