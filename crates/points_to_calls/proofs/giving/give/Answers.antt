use Rattle.std.proofs.Common.{◌≡◌, sym, subst, refl}
use Rattle.std.proofs.lemmas.Result.{IfOk-weaker}
use Rattle.points_to_rules.specs.Facts.{kept_objects, returned_by, may_hold}
use Rattle.points_to_constraints.specs.Items.{Item as RuleItem, copy_to, filter_to, known}
use Rattle.points_to_numbers.specs.declared.item.Item.TheVariants.{Holds}
use Rattle.points_to_rules.specs.declared.place.Place.TheVariants as places
use Rattle.points_to_numbers.specs.declared.keys.Constraint.TheVariants as constraints
use Rattle.points_to_calls.specs.declared.origin.Origin.{Origin}
use Rattle.points_to_calls.specs.Parts.{RuleOrigin, Gets, IsOriginAt}
use Rattle.points_to_numbers.specs.Steps.{Makes}
use Rattle.points_to_numbers.proofs.Making.{makes_one, makes_constrained, on_ok_three}
use Rattle.points_to_calls.proofs.giving.give.Goals as goal

pub add_constraint-requires-clause-constraint : goal.add_constraint-requires-clause-constraint
add_constraint-requires-clause-constraint c =
    let (g, is) = c.requires.origin in let (h, held) = c.requires.to in
    let (name, named, e) = subst (λ (origin : Origin). IsOriginAt c.args.work.now.tables origin g) c.in-Fitting.is is in
    (filter_to name h, (name, h, named, held, refl))

pub add_constraint-requires-in-Returned-clause-constraint : goal.add_constraint-requires-in-Returned-clause-constraint
add_constraint-requires-in-Returned-clause-constraint c = let (h, held) = c.requires.to in (copy_to h, (h, held, refl))

pub returns-in-Unit : goal.returns-in-Unit
returns-in-Unit c =
    IfOk-weaker c.give_unit.result _ _
    (λ done by site g h at is held.
    let e = subst (λ (origin : Origin). IsOriginAt c.args.work.now.tables origin g) c.in-Unit.is is in
    subst (λ (k : RuleOrigin). Makes c.args.work.now.tables c.give_unit.new.work.tables (Gets c.args.program.now site k h) c.args.work.now.steps.items c.give_unit.new.work.steps.items) (sym e) (by site h at held))
    c.give_unit.ensures

pub returns-in_ok-push-in-Made : goal.returns-in_ok-push-in-Made
returns-in_ok-push-in-Made c = λ site g h at is held.
    let n = c.args.work.now.tables in
    let (s, there, e) = subst (λ (origin : Origin). IsOriginAt c.args.work.now.tables origin g) c.in-Made.is is in
    subst (λ (k : RuleOrigin). Makes n n (Gets c.args.program.now site k h) c.args.work.now.steps.items c.push.new.self.items) (sym e)
    (makes_one n (λ (x : RuleItem). x ≡ known (may_hold h s)) c.args.work.now.steps.items c.push.new.self.items (Holds c.args.to c.in-Made.site) (known (may_hold h s)) c.in_ok-push-in-Made.ensures.items
    (h, s, held, there, refl) refl (λ y q. q))

pub returns-in-Fitting : goal.returns-in-Fitting
returns-in-Fitting c =
    on_ok_three c.add_constraint.result c.add_constraint.ensures.grows c.add_constraint.ensures.calls c.add_constraint.ensures.adds
    (λ grows calls adds site g h at is held.
    let n = c.args.work.now.tables in
    let (name, named, e) = subst (λ (origin : Origin). IsOriginAt n origin g) c.in-Fitting.is is in
    subst (λ (k : RuleOrigin). Makes n c.add_constraint.new.self.tables (Gets c.args.program.now site k h) c.args.work.now.steps.items c.add_constraint.new.self.steps.items) (sym e)
    (makes_constrained n c.add_constraint.new.self.tables places.Kept (constraints.FilterTo c.in-Fitting.class c.args.to) kept_objects (filter_to name h) c.args.work.now.steps.items c.add_constraint.new.self.steps.items
    refl (name, h, named, held, refl) grows calls adds))

pub returns-in-Returned : goal.returns-in-Returned
returns-in-Returned c =
    on_ok_three c.add_constraint-in-Returned.result c.add_constraint-in-Returned.ensures.grows c.add_constraint-in-Returned.ensures.calls c.add_constraint-in-Returned.ensures.adds
    (λ grows calls adds site g h at is held.
    let n = c.args.work.now.tables in
    let e = subst (λ (origin : Origin). IsOriginAt n origin g) c.in-Returned.is is in
    subst (λ (k : RuleOrigin). Makes n c.add_constraint-in-Returned.new.self.tables (Gets c.args.program.now site k h) c.args.work.now.steps.items c.add_constraint-in-Returned.new.self.steps.items) (sym e)
    (makes_constrained n c.add_constraint-in-Returned.new.self.tables (places.Returned c.in-Returned.method) (constraints.CopyTo c.args.to) (returned_by c.in-Returned.method) (copy_to h) c.args.work.now.steps.items c.add_constraint-in-Returned.new.self.steps.items
    refl (h, held, refl) grows calls adds))
