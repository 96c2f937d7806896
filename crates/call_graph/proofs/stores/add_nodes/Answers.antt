use Rattle.std.proofs.Common.{refl, length}
use Rattle.std.proofs.lemmas.Option.{slice_get_read}
use Rattle.call_graph.specs.Edges.{IsStoreOf}
use Rattle.ground.proofs.Adding.{added_more}
use Rattle.call_graph.proofs.stores.add_nodes.Goals as goal

pub loop-node-preserved : goal.loop-node-preserved
loop-node-preserved c =
    let nodes = c.args.nodes.now in
    let k = c.loop-node.node-index in
    let at = slice_get_read nodes (length nodes) k c.node-item.result refl c.loop-node-test.true c.node-item.is in
    record {
      added = added_more (IsStoreOf c.args.method) nodes k c.node-item.result at c.args.writes.now.keys c.loop-node.writes.keys c.add_node.new.writes.keys c.loop-node.invariant.added
          c.in_ok-add_node.ensures;
    }
