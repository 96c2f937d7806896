use Rattle.std.proofs.Common.{arith}
use Rattle.edge_checker.specs.Parts.{AreExitsMet, AreLeft, ExitsFail, LeavingFails}
use Rattle.edge_checker.proofs.Leasts.{for_more, for_none, for_whole}
use Rattle.edge_checker.proofs.exits.leaving_failure.Goals as goal

pub loop-one-init : goal.loop-one-init
loop-one-init c =
    let q = c.args.checking.now.question.now in
    let listed = c.args.checking.now.listed.now in
    for_none q (AreExitsMet q listed c.args.a.now) (ExitsFail q listed c.args.a.now) c.args.entered.now 0

pub loop-one-preserved : goal.loop-one-preserved
loop-one-preserved c =
    let q = c.args.checking.now.question.now in
    let listed = c.args.checking.now.listed.now in
    for_more q (AreExitsMet q listed c.args.a.now) (ExitsFail q listed c.args.a.now) c.args.entered.now 0 c.loop-one.one-index c.one-item.result c.loop-one.first
    c.in_ok-exits_failure.field-0 c.least-first.result (omega arith) c.loop-one-test.true c.one-item.is c.least-first.ensures c.loop-one.invariant
    c.in_ok-exits_failure.ensures

pub returns : goal.returns
returns c =
    let q = c.args.checking.now.question.now in
    let listed = c.args.checking.now.listed.now in
    for_whole q (AreExitsMet q listed c.args.a.now) (ExitsFail q listed c.args.a.now) c.args.entered.now c.loop-one.one-index (AreLeft q listed c.args.a.now c.args.entered.now)
    (LeavingFails q listed c.args.a.now c.args.entered.now) c.loop-one.first c.loop-one-test.false (λ x w each. record { each = each })
    (λ x w k l b there f. record { b = b; among = there; fails = f }) (λ x w k l f. (f.b, f.among, f.fails)) c.loop-one.invariant
