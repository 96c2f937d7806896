use Rattle.std.proofs.Common.{get_or}
use Rattle.std.proofs.lemmas.Option.{slice_get-get_or}
use Rattle.call_graph.specs.declared.edges.Edge.{Edge}
use Rattle.call_graph.proofs.Closings.{one_caller_more}
use Rattle.call_graph.proofs.writes.callers_of.Goals as goal

pub loop-edge-preserved : goal.loop-edge-preserved
loop-edge-preserved c =
    let edges = c.args.edges.now in
    let k = c.loop-edge.edge-index in
    let past : Edge = record { callee = record { 0 = 0 }; caller = record { 0 = 0 } } in
    let at = slice_get-get_or edges k past c.loop-edge-test.true in
    record { are = one_caller_more edges k (get_or edges k past) at c.loop-edge.callers.groups.items c.add.new.self.groups.items c.in_ok-add.ensures.put c.loop-edge.invariant.are }
