use Rattle.simulation.proofs.Covered.{closed_covers}
use Rattle.simulation.proofs.covered_nodes.supplied_executions_are_covered.Goals as goal

pub returns : goal.returns
returns c = closed_covers
