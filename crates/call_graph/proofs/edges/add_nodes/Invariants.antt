use Rattle.std.proofs.Common.{take}
use Rattle.ground.specs.Added.{AreAdded, OfOne}
use Rattle.call_graph.specs.Edges.{IsEdgeOf}
use Rattle.call_graph.proofs.edges.add_nodes.Given as goal

abbrev pub invariant-loop-node : goal.invariant-loop-node
invariant-loop-node l = record { added : AreAdded (OfOne (IsEdgeOf l.program l.sets l.method.method) (take l.node-index l.node-items)) l.initial.edges.keys l.edges.keys }
