use Rattle.std.proofs.Common.{◌∙◌}
use Rattle.flow_graph.proofs.Sets.{set_more}
use Rattle.flow_graph.proofs.flow.set_of.Goals as goal

pub loop-offset-preserved : goal.loop-offset-preserved
loop-offset-preserved c =
    λ q. set_more c.loop-offset.set c.insert.new.self c.args.offsets.now c.loop-offset.offset-index c.loop-offset-test.true c.in_ok-insert.ensures.updates q ∙ c.loop-offset.invariant q
