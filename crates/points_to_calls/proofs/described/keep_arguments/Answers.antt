use Rattle.std.proofs.Common.{◌<◌, length, arith, ap, List, get_or, ◌∙◌}
use Rattle.std.proofs.lemmas.List.{get_or_default}
use Rattle.jvm_model.specs.declared.stub.StubArgument.{StubArgument}
use Rattle.jvm_model.specs.declared.stub.StubArgument.TheVariants.{This}
use Rattle.points_to_calls.specs.Parts.{ArgumentKept}
use Rattle.points_to_calls.proofs.Origins.{resolves_on}
use Rattle.points_to_numbers.proofs.Making.{makes_next, makes_all}
use Rattle.points_to_calls.proofs.Stubs.{receiver_on}
use Rattle.points_to_calls.proofs.described.keep_arguments.Goals as goal

pub keep_argument-requires-clause-call : goal.keep_argument-requires-clause-call
keep_argument-requires-clause-call c =
    let (site, at) = c.requires.call in let (r, is) = c.requires.receiver in
    (site, (c.loop-argument.invariant site r at is).grows.calls c.args.call.0 site at)

pub keep_argument-requires-clause-resolved : goal.keep_argument-requires-clause-resolved
keep_argument-requires-clause-resolved c =
    let (site, at) = c.requires.call in let (r, is) = c.requires.receiver in
    resolves_on c.args.program.now c.args.work.now.tables c.loop-argument.work.tables c.args.call.0 (c.loop-argument.invariant site r at is).grows c.requires.call c.requires.resolved

pub keep_argument-requires-clause-receiver : goal.keep_argument-requires-clause-receiver
keep_argument-requires-clause-receiver c =
    let (site, at) = c.requires.call in let (r, is) = c.requires.receiver in
    (r, receiver_on c.args.work.now.tables c.loop-argument.work.tables c.args.description.now.receiver r (c.loop-argument.invariant site r at is).grows is)

pub loop-argument-preserved : goal.loop-argument-preserved
loop-argument-preserved c = λ site r at is.
    let stub = c.args.description.now.stub.now in let i = c.loop-argument.argument-index in let xs = c.as_slice-argument-items.result.now in
    let long = ap length c.as_slice-argument-items.ensures in
    let within : i < length stub.keeps = omega (arith, long) in
    let before = c.loop-argument.invariant site r at is in
    let made = c.in_ok-keep_argument.ensures site r (before.grows.calls c.args.call.0 site at) (receiver_on c.args.work.now.tables c.loop-argument.work.tables c.args.description.now.receiver r before.grows is) in
    makes_next (ArgumentKept c.args.program.now site stub r) c.args.work.now.tables c.loop-argument.work.tables c.keep_argument.new.work.tables stub.keeps i (get_or xs i This) c.args.work.now.steps.items c.loop-argument.work.steps.items c.keep_argument.new.work.steps.items
    within (ap (λ (ys : List StubArgument). get_or ys i This) c.as_slice-argument-items.ensures ∙ get_or_default stub.keeps i This (get_or xs i This) within) before made

pub returns : goal.returns
returns c = λ site r at is.
    let stub = c.args.description.now.stub.now in
    let long = ap length c.as_slice-argument-items.ensures in
    makes_all (ArgumentKept c.args.program.now site stub r) c.args.work.now.tables c.loop-argument.work.tables stub.keeps c.loop-argument.argument-index c.args.work.now.steps.items c.loop-argument.work.steps.items (omega (arith, long))
    (c.loop-argument.invariant site r at is)
