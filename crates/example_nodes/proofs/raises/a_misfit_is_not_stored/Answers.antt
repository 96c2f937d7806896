use Rattle.example_nodes.proofs.RaiseRuns.{a_misfit_is_not_stored}
use Rattle.example_nodes.proofs.raises.a_misfit_is_not_stored.Goals as goal

pub returns : goal.returns
returns c = a_misfit_is_not_stored
