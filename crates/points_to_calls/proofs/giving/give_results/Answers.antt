use Rattle.std.proofs.Common.{arith}
use Rattle.points_to_calls.specs.Parts.{GetsAt}
use Rattle.points_to_calls.proofs.Origins.{resolves_on, origin_on, results_got}
use Rattle.points_to_numbers.proofs.Making.{makes_below_next}
use Rattle.points_to_calls.proofs.giving.give_results.Goals as goal

pub give_at-requires-clause-call : goal.give_at-requires-clause-call
give_at-requires-clause-call c =
    let (site, at) = c.requires.call in let (g, is) = c.requires.origin in
    (site, (c.loop-number.invariant site g at is).grows.calls c.args.call.0 site at)

pub give_at-requires-clause-resolved : goal.give_at-requires-clause-resolved
give_at-requires-clause-resolved c =
    let (site, at) = c.requires.call in let (g, is) = c.requires.origin in
    resolves_on c.args.program.now c.args.work.now.tables c.loop-number.work.tables c.args.call.0 (c.loop-number.invariant site g at is).grows c.requires.call c.requires.resolved

pub give_at-requires-clause-origin : goal.give_at-requires-clause-origin
give_at-requires-clause-origin c =
    let (site, at) = c.requires.call in let (g, is) = c.requires.origin in
    (g, origin_on c.args.work.now.tables c.loop-number.work.tables c.args.origin g (c.loop-number.invariant site g at is).grows is)

pub loop-number-preserved : goal.loop-number-preserved
loop-number-preserved c = λ site g at is.
    let before = c.loop-number.invariant site g at is in
    makes_below_next (GetsAt c.args.program.now site g) c.args.work.now.tables c.loop-number.work.tables c.give_at.new.work.tables c.loop-number.number c.args.work.now.steps.items c.loop-number.work.steps.items c.give_at.new.work.steps.items
    before (c.in_ok-give_at.ensures site g (before.grows.calls c.args.call.0 site at) (origin_on c.args.work.now.tables c.loop-number.work.tables c.args.origin g before.grows is))

pub returns : goal.returns
returns c = λ site g at is.
    results_got c.args.program.now c.args.work.now.tables c.loop-number.work.tables site g c.loop-number.number c.args.work.now.steps.items c.loop-number.work.steps.items
    (let count = c.result_count-number-end.ensures site at in omega (arith, count))
    (c.loop-number.invariant site g at is)
