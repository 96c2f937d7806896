use Rattle.example_nodes.proofs.ReturnRuns.{a_reference_is_given_back}
use Rattle.example_nodes.proofs.returns.a_reference_is_given_back.Goals as goal

pub returns : goal.returns
returns c = a_reference_is_given_back
