use Rattle.std.proofs.Common.{take}
use Rattle.ground.specs.Added.{AreAdded, OfOne}
use Rattle.call_graph.specs.Edges.{IsStoreOf}
use Rattle.call_graph.proofs.stores.add_nodes.Given as goal

abbrev pub invariant-loop-node : goal.invariant-loop-node
invariant-loop-node l = record { added : AreAdded (OfOne (IsStoreOf l.method) (take l.node-index l.nodes)) l.initial.writes.keys l.writes.keys }
