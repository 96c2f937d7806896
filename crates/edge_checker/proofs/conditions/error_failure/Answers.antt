use Rattle.std.proofs.Common.{arith}
use Rattle.edge_checker.specs.Parts.{AreCalm, ErrorFails, IsCalm, SomeInError}
use Rattle.edge_checker.proofs.Leasts.{list_more, list_whole, none_of}
use Rattle.edge_checker.proofs.conditions.error_failure.Goals as goal

pub loop-a-init : goal.loop-a-init
loop-a-init c = none_of (IsCalm c.args.automaton.now) (ErrorFails c.args.automaton.now) c.args.listed.now 0

pub loop-a-preserved : goal.loop-a-preserved
loop-a-preserved c =
    list_more (IsCalm c.args.automaton.now) (ErrorFails c.args.automaton.now) c.args.listed.now 0 c.loop-a.a-index c.a-item.result c.loop-a.first c.error_at.result
    c.least-first.result (omega arith) c.loop-a-test.true c.a-item.is c.least-first.ensures c.loop-a.invariant c.error_at.ensures

pub returns : goal.returns
returns c =
    list_whole (IsCalm c.args.automaton.now) (ErrorFails c.args.automaton.now) c.args.listed.now c.loop-a.a-index (AreCalm c.args.automaton.now c.args.listed.now)
    (SomeInError c.args.automaton.now c.args.listed.now) c.loop-a.first c.loop-a-test.false (λ each. record { each = each })
    (λ k l a there f. record { a = a; stands = there; fails = f }) (λ k l f. (f.a, f.stands, f.fails)) c.loop-a.invariant
