use Rattle.std.proofs.Common.{refl, arith}
use Rattle.flow_graph.proofs.UncaughtLevels.{put_first}
use Rattle.flow_graph.proofs.uncaught.put_first.Goals as goal

pub returns-in_ok-push : goal.returns-in_ok-push
returns-in_ok-push c =
    put_first c.args.range c.args.level.now _ c.index_mut.result.now c.push.new.self c.requires (omega (arith, c.if-range.true)) (omega (arith, c.if-range-eq1.true)) c.index_mut.ensures.value
    c.in_ok-push.ensures.items refl
