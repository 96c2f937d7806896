use Rattle.std.proofs.Common.{length}
use Rattle.flow_graph.proofs.handlers.+add_covering.Given as goal

abbrev pub decreases-add_covering : goal.decreases-add_covering
decreases-add_covering l = length l.spans.now
