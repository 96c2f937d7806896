use Rattle.std.proofs.Common.{None, ◌⊎◌}
use Rattle.std.proofs.lemmas.Result.{IfOk-weaker}
use Rattle.points_to_constraints.specs.Items.{Item as RuleItem}
use Rattle.points_to_calls.specs.Describing.{StubItem, StubPart}
use Rattle.points_to_calls.specs.Parts.{KeptItem, GotItem, ThrownItem}
use Rattle.points_to_calls.proofs.Origins.{resolves_on}
use Rattle.points_to_numbers.proofs.Making.{makes_both, makes_same}
use Rattle.points_to_calls.proofs.described.stub_items.Goals as goal

pub give_all-requires-clause-call : goal.give_all-requires-clause-call
give_all-requires-clause-call c = let (site, at) = c.requires.call in (site, (c.in_ok-keep_arguments.ensures site None at tt).grows.calls c.args.call.0 site at)

pub give_all-requires-clause-resolved : goal.give_all-requires-clause-resolved
give_all-requires-clause-resolved c =
    let (site, at) = c.requires.call in
    resolves_on c.args.program.now c.args.work.now.tables c.keep_arguments.new.work.tables c.args.call.0 (c.in_ok-keep_arguments.ensures site None at tt).grows c.requires.call c.requires.resolved

pub throw_all-requires : goal.throw_all-requires
throw_all-requires c =
    let (site, at) = c.requires.call in
    let there = (c.in_ok-keep_arguments.ensures site None at tt).grows.calls c.args.call.0 site at in
    (site, (c.in_ok-give_all.ensures site None there tt).grows.calls c.args.call.0 site there)

pub returns : goal.returns
returns c =
    IfOk-weaker c.throw_all.result _ _
    (λ done made site at.
    let p = c.args.program.now in let stub = c.args.stub.now in
    let n = c.args.work.now.tables in let m = c.keep_arguments.new.work.tables in let o = c.give_all.new.work.tables in let q = c.throw_all.new.work.tables in
    let kept = c.in_ok-keep_arguments.ensures site None at tt in
    let there = kept.grows.calls c.args.call.0 site at in
    let given = c.in_ok-give_all.ensures site None there tt in
    let thrown = made site (given.grows.calls c.args.call.0 site there) in
    let a = c.args.work.now.steps.items in let b = c.keep_arguments.new.work.steps.items in let d = c.give_all.new.work.steps.items in let e = c.throw_all.new.work.steps.items in
    let first = makes_both n m o (KeptItem p site stub None) (GotItem p site stub None) a b d kept given in
    let whole = makes_both n o q (λ (x : RuleItem). KeptItem p site stub None x ⊎ GotItem p site stub None x) (ThrownItem p site stub) a d e first thrown in
    makes_same n q (StubPart p site stub) (StubItem p site stub) a e (λ x. (λ part. (c.if-stub.false, part), λ item. item.1)) whole)
    c.throw_all.ensures
