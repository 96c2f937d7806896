use Rattle.std.proofs.Common.{length}
use Rattle.flow_graph.proofs.uncaught.+take_held.Given as goal

abbrev pub decreases-take_held : goal.decreases-take_held
decreases-take_held l = length l.levels.now
