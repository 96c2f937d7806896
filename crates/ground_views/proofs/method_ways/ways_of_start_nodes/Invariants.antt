use Rattle.std.proofs.Common.{take}
use Rattle.ground_views.specs.Views.{AreOneForOne, AreStartWays}
use Rattle.ground_views.proofs.method_ways.ways_of_start_nodes.Given as goal

abbrev pub invariant-loop-node : goal.invariant-loop-node
invariant-loop-node l = record { ways : AreOneForOne (AreStartWays l.ground) (take l.node-index l.node-items) l.ways.items }
