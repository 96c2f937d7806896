use Rattle.std.proofs.Common.{sym, ◌∙◌, refl, arith}
use Rattle.flow_graph.specs.Walks.{ends}
use Rattle.flow_graph.proofs.Walked.{one_less, walk_more}
use Rattle.flow_graph.proofs.walk.walk.Goals as goal

pub loop-number-smaller : goal.loop-number-smaller
loop-number-smaller c =
    let one = one_less c.args.code.now c.args.effects.now c.loop-number.marks c.walk_one.new.marks c.in_ok-walk_one.ensures.walked in
    omega (arith, one.less)

pub loop-number-preserved : goal.loop-number-preserved
loop-number-preserved c =
    let walked = c.in_ok-walk_one.ensures.walked in
    let one = one_less c.args.code.now c.args.effects.now c.loop-number.marks c.walk_one.new.marks walked in (
      one.count ∙ c.loop-number.invariant.0,
      c.in_ok-walk_one.ensures.awaited,
      c.in_ok-walk_one.ensures.uncaught,
      λ end rest. c.loop-number.invariant.3 end (walk_more c.args.code.now c.args.effects.now c.loop-number.marks c.walk_one.new.marks end walked rest),
    )

pub returns : goal.returns
returns c = c.loop-number.invariant.3 c.loop-number.marks (ends c.loop-number.marks c.loop-number.marks (sym c.first_waiting.ensures.first ∙ c.in_default.is) refl)
