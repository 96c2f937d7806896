use Rattle.std.proofs.Common.{◌≡◌, refl, ◌⊎◌}
use Rattle.std.proofs.lemmas.Result.{IfOk-weaker}
use Rattle.slot_names.specs.declared.variable.Variable.TheVariants.{Parameter}
use Rattle.points_to_rules.specs.Facts.{variable, may_hold, may_call}
use Rattle.points_to_constraints.specs.Items.{Item as RuleItem, known}
use Rattle.points_to_numbers.specs.declared.item.Item.TheVariants.{Calls}
use Rattle.points_to_rules.specs.declared.place.Place.TheVariants as places
use Rattle.points_to_calls.specs.Selecting.{DescribedItem}
use Rattle.points_to_calls.proofs.Origins.{resolves_on}
use Rattle.points_to_numbers.proofs.Making.{makes_one, makes_both, makes_held}
use Rattle.points_to_calls.proofs.selecting.chosen_items.Goals as goal

pub add_holding-requires-clause-place : goal.add_holding-requires-clause-place
add_holding-requires-clause-place c = (variable (Parameter c.args.target 0), refl)

pub described_items-requires-clause-call : goal.described_items-requires-clause-call
described_items-requires-clause-call c = let (site, at) = c.requires.call in (site, c.in_ok-add_holding.ensures.grows.calls c.args.receiver.call.0 site at)

pub described_items-requires-clause-site : goal.described_items-requires-clause-site
described_items-requires-clause-site c = let (s, there) = c.requires.site in (s, c.in_ok-add_holding.ensures.grows.sites c.args.receiver.site.0 s there)

pub described_items-requires-clause-resolved : goal.described_items-requires-clause-resolved
described_items-requires-clause-resolved c =
    resolves_on c.args.program.now c.args.work.now.tables c.add_holding.new.self.tables c.args.receiver.call.0 c.in_ok-add_holding.ensures.grows c.requires.call c.requires.resolved

pub returns : goal.returns
returns c =
    IfOk-weaker c.described_items.result _ _
    (λ done made site s at there.
    let p = c.args.program.now in let target = c.args.target in
    let n = c.args.work.now.tables in let m = c.add_holding.new.self.tables in let o = c.described_items.new.work.tables in
    let a = c.args.work.now.steps.items in let b = c.push.new.self.items in let d = c.add_holding.new.self.steps.items in let e = c.described_items.new.work.steps.items in
    let h = variable (Parameter target 0) in let held = c.in_ok-add_holding.ensures in
    let called = makes_one n (λ (x : RuleItem). x ≡ known (may_call site.at target)) a b (Calls c.args.receiver.call target) (known (may_call site.at target)) c.in_ok-push.ensures.items (site, at, refl) refl (λ y q. q) in
    let received = makes_held n m (places.Variable (Parameter target 0)) h s b d refl held.grows held.calls (held.adds s there) in
    let first = makes_both n n m (λ (x : RuleItem). x ≡ known (may_call site.at target)) (λ (x : RuleItem). x ≡ known (may_hold h s)) a b d called received in
    makes_both n m o (λ (x : RuleItem). (x ≡ known (may_call site.at target)) ⊎ (x ≡ known (may_hold h s))) (DescribedItem p site s target) a d e first
    (made site s (held.grows.calls c.args.receiver.call.0 site at) (held.grows.sites c.args.receiver.site.0 s there)))
    c.described_items.ensures
