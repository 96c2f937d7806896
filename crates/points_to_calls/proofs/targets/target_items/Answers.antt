use Rattle.std.proofs.Common.{◌≡◌, ◌∙◌, refl, ◌⊎◌}
use Rattle.points_to_rules.specs.Facts.{may_run}
use Rattle.points_to_constraints.specs.CallItems.{CallItem}
use Rattle.points_to_constraints.specs.Items.{Item as RuleItem, known}
use Rattle.points_to_numbers.specs.declared.item.Item.TheVariants.{Runs}
use Rattle.points_to_calls.specs.Describing.{BodyItem}
use Rattle.points_to_calls.specs.Parts.{UnitPassed}
use Rattle.points_to_calls.proofs.CallParted.{PartedItem, parted}
use Rattle.points_to_calls.proofs.Origins.{resolves_on}
use Rattle.points_to_numbers.proofs.Making.{makes_one, makes_both, makes_same}
use Rattle.points_to_numbers.proofs.Growing.{grows_on}
use Rattle.points_to_calls.proofs.targets.target_items.Goals as goal

pub body_items-requires-clause-call : goal.body_items-requires-clause-call
body_items-requires-clause-call c = let (site, at) = c.requires.call in (site, (c.in_ok-pass_units.ensures site at).grows.calls c.args.call.0 site at)

pub body_items-requires-clause-resolved : goal.body_items-requires-clause-resolved
body_items-requires-clause-resolved c =
    let (site, at) = c.requires.call in
    resolves_on c.args.program.now c.args.work.now.tables c.pass_units.new.work.tables c.args.call.0 (c.in_ok-pass_units.ensures site at).grows c.requires.call c.requires.resolved

pub returns-clause-grows : goal.returns-clause-grows
returns-clause-grows c =
    let (site, at) = c.requires.call in
    let passed = c.in_ok-pass_units.ensures site at in
    grows_on c.args.work.now.tables c.pass_units.new.work.tables c.body_items.new.work.tables passed.grows (c.in_ok-body_items.ensures site (passed.grows.calls c.args.call.0 site at)).grows

pub returns-clause-calls : goal.returns-clause-calls
returns-clause-calls c =
    let (site, at) = c.requires.call in
    let passed = c.in_ok-pass_units.ensures site at in
    (c.in_ok-body_items.ensures site (passed.grows.calls c.args.call.0 site at)).calls ∙ passed.calls

pub returns-clause-adds : goal.returns-clause-adds
returns-clause-adds c = λ site at.
    let p = c.args.program.now in let target = c.args.target in
    let n = c.args.work.now.tables in let m = c.pass_units.new.work.tables in let o = c.body_items.new.work.tables in
    let a = c.args.work.now.steps.items in let b = c.push.new.self.items in let d = c.pass_units.new.work.steps.items in let e = c.body_items.new.work.steps.items in
    let ran = makes_one n (λ (x : RuleItem). x ≡ known (may_run target)) a b (Runs target) (known (may_run target)) c.in_ok-push.ensures.items refl refl (λ y q. q) in
    let passed = c.in_ok-pass_units.ensures site at in
    let given = c.in_ok-body_items.ensures site (passed.grows.calls c.args.call.0 site at) in
    let first = makes_both n n m (λ (x : RuleItem). x ≡ known (may_run target)) (UnitPassed site target) a b d ran passed in
    let whole = makes_both n m o (λ (x : RuleItem). (x ≡ known (may_run target)) ⊎ UnitPassed site target x) (BodyItem p site target) a d e first given in
    (makes_same n o (PartedItem p site target) (CallItem p site target) a e (parted p site target) whole).adds
