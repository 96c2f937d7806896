use Rattle.std.proofs.Common.{length}
use Rattle.flow_graph.proofs.handlers.+add_latest.Given as goal

abbrev pub decreases-add_latest : goal.decreases-add_latest
decreases-add_latest l = length l.spans.now
