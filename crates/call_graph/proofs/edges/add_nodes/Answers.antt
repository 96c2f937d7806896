use Rattle.std.proofs.Common.{List, refl, length, subst}
use Rattle.std.proofs.lemmas.Option.{slice_get_read}
use Rattle.op_model.specs.declared.node.Node.{Node}
use Rattle.ground.specs.Added.{AreAdded, OfOne}
use Rattle.call_graph.specs.Edges.{IsEdgeOf}
use Rattle.ground.proofs.Adding.{added_all, added_more}
use Rattle.call_graph.proofs.NodeEdges.{edges_added}
use Rattle.call_graph.proofs.edges.add_nodes.Goals as goal

pub loop-node-preserved : goal.loop-node-preserved
loop-node-preserved c =
    let p = c.args.program.now in
    let s = c.args.sets.now in
    let l = c.args.method.now in
    let nodes = c.as_slice-node-items.result.now in
    let k = c.loop-node.node-index in
    let n = c.node-item.result in
    let at = slice_get_read nodes (length nodes) k n refl c.loop-node-test.true c.node-item.is in
    let b = c.loop-node.edges.keys in
    let new = c.add_initialisers.new.edges.keys in
    let one = edges_added p s l.method n b c.add_targets.new.edges.keys new c.in_ok-add_targets.ensures c.in_ok-add_initialisers.ensures in
    record { added = added_more (IsEdgeOf p s l.method) nodes k n at c.args.edges.now.keys b new c.loop-node.invariant.added one }

pub returns : goal.returns
returns c =
    let l = c.args.method.now in
    let of = IsEdgeOf c.args.program.now c.args.sets.now l.method in
    let nodes = c.as_slice-node-items.result.now in
    let a = c.args.edges.now.keys in
    let b = c.loop-node.edges.keys in
    subst (λ (ns : List Node). AreAdded (OfOne of ns) a b) c.as_slice-node-items.ensures
    (added_all of nodes c.loop-node.node-index c.loop-node-test.false a b c.loop-node.invariant.added)
