use Rattle.simulation.proofs.Whole.{supplied_whole}
use Rattle.simulation.proofs.whole_methods.supplied_methods_are_whole.Goals as goal

pub returns : goal.returns
returns c = supplied_whole
