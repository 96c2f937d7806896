use Rattle.std.proofs.Common.{arith}
use Rattle.flow_graph.specs.declared.handlers.Span.{Span}
use Rattle.flow_graph.proofs.HandlerTrees.{ends_more, ends_all}
use Rattle.flow_graph.proofs.handlers.latest_of.Goals as goal

pub loop-span-preserved : goal.loop-span-preserved
loop-span-preserved c =
    let none : Span = record { start = 0; finish = 0; place = 0 } in
    let most = c.max-latest.ensures in
    ends_more c.args.spans.now c.loop-span.span-index c.loop-span.latest c.max-latest.result none c.loop-span-test.true c.loop-span.invariant (omega (arith, most)) (omega (arith, most))

pub returns : goal.returns
returns c = ends_all c.args.spans.now c.loop-span.span-index c.loop-span.latest (omega (arith, c.loop-span-test.false)) c.loop-span.invariant
