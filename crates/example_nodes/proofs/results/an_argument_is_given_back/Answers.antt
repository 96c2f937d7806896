use Rattle.example_nodes.proofs.ResultRuns.{an_argument_is_given_back}
use Rattle.example_nodes.proofs.results.an_argument_is_given_back.Goals as goal

pub returns : goal.returns
returns c = an_argument_is_given_back
