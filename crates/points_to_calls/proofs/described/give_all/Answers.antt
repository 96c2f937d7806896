use Rattle.std.proofs.Common.{◌<◌, length, arith, ap, List, get_or, ◌∙◌}
use Rattle.jvm_model.specs.declared.stub.StubResult.{StubResult}
use Rattle.points_to_calls.specs.Parts.{ResultGot}
use Rattle.points_to_calls.proofs.Origins.{resolves_on}
use Rattle.points_to_numbers.proofs.Making.{makes_next, makes_all}
use Rattle.points_to_calls.proofs.Stubs.{receiver_on}
use Rattle.points_to_calls.proofs.described.give_all.Goals as goal

pub give_result-requires-clause-call : goal.give_result-requires-clause-call
give_result-requires-clause-call c =
    let (site, at) = c.requires.call in let (r, is) = c.requires.receiver in
    (site, (c.loop-outcome.invariant site r at is).grows.calls c.args.call.0 site at)

pub give_result-requires-clause-resolved : goal.give_result-requires-clause-resolved
give_result-requires-clause-resolved c =
    let (site, at) = c.requires.call in let (r, is) = c.requires.receiver in
    resolves_on c.args.program.now c.args.work.now.tables c.loop-outcome.work.tables c.args.call.0 (c.loop-outcome.invariant site r at is).grows c.requires.call c.requires.resolved

pub give_result-requires-clause-receiver : goal.give_result-requires-clause-receiver
give_result-requires-clause-receiver c =
    let (site, at) = c.requires.call in let (r, is) = c.requires.receiver in
    (r, receiver_on c.args.work.now.tables c.loop-outcome.work.tables c.args.description.now.receiver r (c.loop-outcome.invariant site r at is).grows is)

pub loop-outcome-preserved : goal.loop-outcome-preserved
loop-outcome-preserved c = λ site r at is.
    let stub = c.args.description.now.stub.now in let i = c.loop-outcome.outcome-index in let xs = c.as_slice-outcome-items.result.now in
    let long = ap length c.as_slice-outcome-items.ensures in
    let within : i < length stub.returns = omega (arith, long) in
    let before = c.loop-outcome.invariant site r at is in
    let made = c.in_ok-give_result.ensures site r (before.grows.calls c.args.call.0 site at) (receiver_on c.args.work.now.tables c.loop-outcome.work.tables c.args.description.now.receiver r before.grows is) in
    makes_next (ResultGot c.args.program.now site stub r) c.args.work.now.tables c.loop-outcome.work.tables c.give_result.new.work.tables stub.returns i c.outcome-item.result c.args.work.now.steps.items c.loop-outcome.work.steps.items c.give_result.new.work.steps.items
    within (c.outcome-item.is ∙ ap (λ (ys : List StubResult). get_or ys i c.outcome-item.result) c.as_slice-outcome-items.ensures) before made

pub returns : goal.returns
returns c = λ site r at is.
    let stub = c.args.description.now.stub.now in
    let long = ap length c.as_slice-outcome-items.ensures in
    makes_all (ResultGot c.args.program.now site stub r) c.args.work.now.tables c.loop-outcome.work.tables stub.returns c.loop-outcome.outcome-index c.args.work.now.steps.items c.loop-outcome.work.steps.items (omega (arith, long))
    (c.loop-outcome.invariant site r at is)
