use Rattle.std.proofs.Common.{◌≤◌, List, All, take, subst, arith}
use Rattle.std.proofs.lemmas.List.{take_all}
use Rattle.std.proofs.lemmas.List.Elements.{All-more, All-weaker}
use Rattle.flow_graph.specs.declared.uncaught.Range.{Range}
use Rattle.flow_graph.proofs.uncaught.width_of.Goals as goal

pub loop-range-preserved : goal.loop-range-preserved
loop-range-preserved c =
    let none : Range = record { from = 0; to = 0; target = 0 } in
    let ranges = c.args.ranges.now in
    let most = c.max-width.ensures in
    All-more (λ (r : Range). r.to ≤ c.max-width.result) ranges c.loop-range.range-index none c.loop-range-test.true
    (All-weaker (λ (r : Range). r.to ≤ c.loop-range.width) (λ (r : Range). r.to ≤ c.max-width.result) (λ r le. omega (arith, most)) (take c.loop-range.range-index ranges) c.loop-range.invariant)
    (omega (arith, most))

pub returns : goal.returns
returns c =
    subst (λ (rs : List Range). All (λ (r : Range). r.to ≤ c.loop-range.width) rs) (take_all c.loop-range.range-index c.args.ranges.now (omega (arith, c.loop-range-test.false))) c.loop-range.invariant
