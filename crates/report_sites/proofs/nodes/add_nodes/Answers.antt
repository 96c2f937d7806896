use Rattle.std.proofs.Common.{refl, length}
use Rattle.std.proofs.lemmas.Option.{slice_get_read}
use Rattle.report_sites.specs.Found.{IsSiteOf}
use Rattle.ground.proofs.Adding.{added_all, added_more}
use Rattle.report_sites.proofs.nodes.add_nodes.Goals as goal

pub loop-node-preserved : goal.loop-node-preserved
loop-node-preserved c =
    let nodes = c.args.nodes.now in
    let k = c.loop-node.node-index in
    let at = slice_get_read nodes (length nodes) k c.node-item.result refl c.loop-node-test.true c.node-item.is in
    record {
      added = added_more (IsSiteOf c.args.wanted.now.program.now c.args.ground.now c.args.wanted.now.upper c.args.method) nodes k c.node-item.result at
          c.args.sites.now.items c.loop-node.sites.items c.add_node.new.sites.items c.loop-node.invariant.added c.in_ok-add_node.ensures;
    }

pub returns : goal.returns
returns c =
    added_all (IsSiteOf c.args.wanted.now.program.now c.args.ground.now c.args.wanted.now.upper c.args.method) c.args.nodes.now c.loop-node.node-index c.loop-node-test.false
    c.args.sites.now.items c.loop-node.sites.items c.loop-node.invariant.added
