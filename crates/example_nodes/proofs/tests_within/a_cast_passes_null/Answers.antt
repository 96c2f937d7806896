use Rattle.example_nodes.proofs.WithinTests.{a_cast_passes_null}
use Rattle.example_nodes.proofs.tests_within.a_cast_passes_null.Goals as goal

pub returns : goal.returns
returns c = a_cast_passes_null
