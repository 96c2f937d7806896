use Rattle.simulation.proofs.Supplied.{supplied_runs}
use Rattle.simulation.proofs.laws.supplied_runs.Goals as goal

pub returns : goal.returns
returns c = supplied_runs
