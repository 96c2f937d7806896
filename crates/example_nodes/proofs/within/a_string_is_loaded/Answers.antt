use Rattle.example_nodes.proofs.WithinRuns.{a_string_is_loaded}
use Rattle.example_nodes.proofs.within.a_string_is_loaded.Goals as goal

pub returns : goal.returns
returns c = a_string_is_loaded
