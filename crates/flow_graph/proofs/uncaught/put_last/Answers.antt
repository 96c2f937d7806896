use Rattle.std.proofs.Common.{refl, arith, ◌-◌}
use Rattle.flow_graph.proofs.UncaughtLevels.{put_last}
use Rattle.flow_graph.proofs.uncaught.put_last.Goals as goal

pub returns-in_ok-push : goal.returns-in_ok-push
returns-in_ok-push c =
    put_last c.args.range c.args.level.now _ c.index_mut.result.now c.push.new.self c.requires (omega (arith, c.if-range.true)) (omega (arith, c.if-range-eq1.true)) (c.args.range.to - 1)
    (omega (arith, c.if-range.true)) c.index_mut.ensures.value c.in_ok-push.ensures.items refl
