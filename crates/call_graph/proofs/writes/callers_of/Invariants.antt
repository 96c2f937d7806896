use Rattle.std.proofs.Common.{take}
use Rattle.call_graph.specs.Closing.{AreCallers}
use Rattle.call_graph.proofs.writes.callers_of.Given as goal

abbrev pub invariant-loop-edge : goal.invariant-loop-edge
invariant-loop-edge l = record { are : AreCallers (take l.edge-index l.edges) l.callers.groups.items }
