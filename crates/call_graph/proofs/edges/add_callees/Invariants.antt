use Rattle.std.proofs.Common.{take}
use Rattle.ground.specs.Added.{AreAdded, OfOne}
use Rattle.call_graph.proofs.NodeEdges.{IsEdgeTo}
use Rattle.call_graph.proofs.edges.add_callees.Given as goal

abbrev pub invariant-loop-callee : goal.invariant-loop-callee
invariant-loop-callee l = record { added : AreAdded (OfOne (IsEdgeTo l.caller) (take l.callee-index l.callees)) l.initial.edges.keys l.edges.keys }
