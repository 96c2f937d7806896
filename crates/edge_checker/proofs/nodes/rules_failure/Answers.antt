use Rattle.std.proofs.Common.{arith}
use Rattle.edge_checker.specs.Parts.{AllMeet, FailsAt, MeetsAt, SomeFails}
use Rattle.edge_checker.proofs.Leasts.{for_more, for_none, for_whole}
use Rattle.edge_checker.proofs.nodes.rules_failure.Goals as goal

pub loop-a-init : goal.loop-a-init
loop-a-init c =
    let q = c.args.checking.now.question.now in
    let listed = c.args.checking.now.listed.now in
    for_none q (MeetsAt q listed) (FailsAt q listed) listed 0

pub loop-a-preserved : goal.loop-a-preserved
loop-a-preserved c =
    let q = c.args.checking.now.question.now in
    let listed = c.args.checking.now.listed.now in
    for_more q (MeetsAt q listed) (FailsAt q listed) listed 0 c.loop-a.a-index c.a-item.result c.loop-a.first c.in_ok-failure_at.field-0 c.least-first.result (omega arith)
    c.loop-a-test.true c.a-item.is c.least-first.ensures c.loop-a.invariant c.in_ok-failure_at.ensures

pub returns : goal.returns
returns c =
    let q = c.args.checking.now.question.now in
    let listed = c.args.checking.now.listed.now in
    for_whole q (MeetsAt q listed) (FailsAt q listed) listed c.loop-a.a-index (AllMeet q listed) (SomeFails q listed) c.loop-a.first c.loop-a-test.false
    (λ x w each. record { each = each }) (λ x w k l a there f. record { a = a; stands = there; fails = f }) (λ x w k l f. (f.a, f.stands, f.fails)) c.loop-a.invariant
