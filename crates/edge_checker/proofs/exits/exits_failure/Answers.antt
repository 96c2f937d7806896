use Rattle.std.proofs.Common.{◌≡◌, ◌≤◌, ◌<◌, Some, length, refl, sym, subst, arith}
use Rattle.std.proofs.lemmas.Option.{slice_get_read}
use Rattle.edge_checker.specs.declared.numbered_edge.NumberedEdge.{NumberedEdge}
use Rattle.edge_checker.specs.Failures.{IsLeastFor}
use Rattle.edge_checker.specs.Parts.{ExitFails, IsExitMet}
use Rattle.edge_checker.proofs.Joins.{exits_whole}
use Rattle.edge_checker.proofs.Leasts.{for_more, for_none}
use Rattle.edge_checker.proofs.exits.exits_failure.Goals as goal

pub loop-place-init : goal.loop-place-init
loop-place-init c =
    let q = c.args.checking.now.question.now in
    let listed = c.args.checking.now.listed.now in
    for_none q (IsExitMet q listed c.args.a.now) (ExitFails q listed c.args.a.now) listed c.exits_of-from.result.0

pub exit_failure-requires-clause-method : goal.exit_failure-requires-clause-method
exit_failure-requires-clause-method c =
    let listed = c.args.checking.now.listed.now in
    let high : c.loop-place.place < c.exits_of-from.result.1 = c.loop-place-test.true in
    let short : c.loop-place.place < length listed = omega (arith, high, c.exits_of-from.ensures.within) in
    let at = slice_get_read listed (length listed) c.loop-place.place c.index-checking-place.result refl short c.index-checking-place.is in
    subst (λ (r : NumberedEdge). r.edge.method ≡ Some c.args.one.now.method) c.index-checking-place.is
    (c.exits_of-from.ensures.those c.loop-place.place c.index-checking-place.result c.loop-place.auto.place high at).method

pub loop-place-preserved : goal.loop-place-preserved
loop-place-preserved c =
    let q = c.args.checking.now.question.now in
    let listed = c.args.checking.now.listed.now in
    let high : c.loop-place.place < c.exits_of-from.result.1 = c.loop-place-test.true in
    let short : c.loop-place.place < length listed = omega (arith, high, c.exits_of-from.ensures.within) in
    for_more q (IsExitMet q listed c.args.a.now) (ExitFails q listed c.args.a.now) listed c.exits_of-from.result.0 c.loop-place.place c.index-checking-place.result c.loop-place.first
    c.in_ok-exit_failure.field-0 c.least-first.result c.loop-place.auto.place short c.index-checking-place.is c.least-first.ensures c.loop-place.invariant
    (subst (λ (r : NumberedEdge). IsLeastFor q (IsExitMet q listed c.args.a.now r) (ExitFails q listed c.args.a.now r) c.in_ok-exit_failure.field-0) (sym c.index-checking-place.is)
    c.in_ok-exit_failure.ensures)

pub returns : goal.returns
returns c =
    let q = c.args.checking.now.question.now in
    let listed = c.args.checking.now.listed.now in
    let past : c.exits_of-from.result.1 ≤ c.loop-place.place = c.loop-place-test.false in
    let end : c.loop-place.place ≤ c.exits_of-from.result.1 = c.loop-place.auto.place-end c.exits_of-from.ensures.ordered in
    exits_whole q listed c.args.a.now c.args.one.now c.exits_of-from.result.0 c.exits_of-from.result.1 c.loop-place.place c.loop-place.first c.exits_of-from.ensures past end
    c.loop-place.invariant
