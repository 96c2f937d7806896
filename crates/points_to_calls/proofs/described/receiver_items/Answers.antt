use Rattle.std.proofs.Common.{Some, ◌⊎◌}
use Rattle.std.proofs.lemmas.Result.{IfOk-weaker}
use Rattle.points_to_constraints.specs.Items.{Item as RuleItem}
use Rattle.points_to_calls.specs.Describing.{ReceiverItem}
use Rattle.points_to_calls.specs.Parts.{KeptItem, GotItem}
use Rattle.points_to_calls.proofs.Origins.{resolves_on}
use Rattle.points_to_numbers.proofs.Making.{makes_both, makes_same}
use Rattle.points_to_calls.proofs.described.receiver_items.Goals as goal

pub keep_arguments-requires-clause-receiver : goal.keep_arguments-requires-clause-receiver
keep_arguments-requires-clause-receiver c = let (s, is) = c.requires.receiver in (Some s, is)

pub give_all-requires-clause-call : goal.give_all-requires-clause-call
give_all-requires-clause-call c =
    let (site, at) = c.requires.call in let (s, is) = c.requires.receiver in (site, (c.in_ok-keep_arguments.ensures site (Some s) at is).grows.calls c.args.receiver.call.0 site at)

pub give_all-requires-clause-resolved : goal.give_all-requires-clause-resolved
give_all-requires-clause-resolved c =
    let (site, at) = c.requires.call in let (s, is) = c.requires.receiver in
    resolves_on c.args.program.now c.args.work.now.tables c.keep_arguments.new.work.tables c.args.receiver.call.0 (c.in_ok-keep_arguments.ensures site (Some s) at is).grows c.requires.call c.requires.resolved

pub give_all-requires-clause-receiver : goal.give_all-requires-clause-receiver
give_all-requires-clause-receiver c =
    let (site, at) = c.requires.call in let (s, is) = c.requires.receiver in
    (Some s, (c.in_ok-keep_arguments.ensures site (Some s) at is).grows.sites c.args.receiver.site.0 s is)

pub returns : goal.returns
returns c =
    IfOk-weaker c.give_all.result _ _
    (λ done made site s at is.
    let p = c.args.program.now in let stub = c.args.stub.now in
    let n = c.args.work.now.tables in let m = c.keep_arguments.new.work.tables in let o = c.give_all.new.work.tables in
    let kept = c.in_ok-keep_arguments.ensures site (Some s) at is in
    let given = made site (Some s) (kept.grows.calls c.args.receiver.call.0 site at) (kept.grows.sites c.args.receiver.site.0 s is) in
    let a = c.args.work.now.steps.items in let b = c.keep_arguments.new.work.steps.items in let d = c.give_all.new.work.steps.items in
    let whole = makes_both n m o (KeptItem p site stub (Some s)) (GotItem p site stub (Some s)) a b d kept given in
    makes_same n o (λ (x : RuleItem). KeptItem p site stub (Some s) x ⊎ GotItem p site stub (Some s) x) (ReceiverItem p site stub s) a d
    (λ x. (λ part. (c.if-stub.false, part), λ item. item.1)) whole)
    c.give_all.ensures
