use Rattle.std.proofs.Common.{◌+◌, List, take, sym, subst}
use Rattle.op_model.specs.declared.node.Node.{Node}
use Rattle.node_ways.specs.declared.ways.NodeWays.{NodeWays}
use Rattle.ground_views.specs.Views.{AreOneForOne, AreStartWays}
use Rattle.ground_views.proofs.OneForOne.{one_all, one_more, one_none, stands_read}
use Rattle.ground_views.proofs.method_ways.ways_of_start_nodes.Goals as goal

pub loop-node-init : goal.loop-node-init
loop-node-init c = record { ways = one_none (AreStartWays c.args.ground.now) c.as_slice-node-items.result.now c.new-ways.result.items c.new-ways.ensures.items }

pub loop-node-preserved : goal.loop-node-preserved
loop-node-preserved c =
    let g = c.args.ground.now in
    let nodes = c.as_slice-node-items.result.now in
    let index = c.loop-node.node-index in
    let n = c.node-item.result in
    record {
      ways =
          subst (λ (all : List NodeWays). AreOneForOne (AreStartWays g) (take (index + 1) nodes) all) (sym {A = List NodeWays} c.in_ok-push.ensures.items)
          (one_more (AreStartWays g) nodes c.loop-node.ways.items index n c.in_ok-ways_of_start.field-0 (stands_read nodes index n c.loop-node-test.true c.node-item.is) c.loop-node.invariant.ways
          (record { call = c.in_ok-ways_of_start.ensures.call; returning = c.in_ok-ways_of_start.ensures.returning }));
    }

pub returns : goal.returns
returns c =
    let g = c.args.ground.now in
    subst (λ (ns : List Node). AreOneForOne (AreStartWays g) ns c.loop-node.ways.items) c.as_slice-node-items.ensures
    (one_all (AreStartWays g) c.as_slice-node-items.result.now c.loop-node.ways.items c.loop-node.node-index c.loop-node-test.false c.loop-node.invariant.ways)
