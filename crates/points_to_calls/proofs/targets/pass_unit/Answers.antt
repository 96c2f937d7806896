use Rattle.std.proofs.Common.{◌≡◌, ℕ, refl, sym, ap, ◌∙◌, subst}
use Rattle.std.proofs.lemmas.Result.{IfOk-weaker}
use Rattle.op_model.specs.declared.op.CallKind.{CallKind}
use Rattle.slot_names.specs.declared.variable.Variable.TheVariants.{Parameter}
use Rattle.points_to_rules.specs.Facts.{variable}
use Rattle.points_to_constraints.specs.CallItems.{is_passed}
use Rattle.points_to_constraints.specs.Items.{Item as RuleItem, copy_to, constrained}
use Rattle.points_to_calls.specs.Parts.{unit_in}
use Rattle.points_to_numbers.specs.Steps.{Makes}
use Rattle.points_to_calls.proofs.CallParts.{stands_for, no_place}
use Rattle.points_to_numbers.proofs.Making.{makes_grown}
use Rattle.points_to_calls.proofs.PassedUnits.{none_passed, no_reference, unit_passed}
use Rattle.points_to_calls.proofs.targets.pass_unit.Goals as goal

pub returns-then-not-is_passed : goal.returns-then-not-is_passed
returns-then-not-is_passed c = λ site at.
    none_passed c.args.work.now.tables site c.args.target c.args.unit c.args.work.now.steps.items
    (ap (λ (k : CallKind). is_passed k c.args.unit) (c.call_of.ensures site at).kind ∙ sym c.is_passed.ensures ∙ c.if-not-is_passed.true)

pub returns-in_default : goal.returns-in_default
returns-in_default c = λ site at.
    no_reference c.args.work.now.tables site c.args.target c.args.unit c.args.work.now.steps.items
    (no_place c.args.work.now.tables c.argument_of.result (unit_in site.arguments c.args.unit) c.in_default.not-Some (c.argument_of.ensures site at))

pub add_constraint_at-requires-clause-place : goal.add_constraint_at-requires-clause-place
add_constraint_at-requires-clause-place c =
    let (site, at) = c.requires in
    let (from, stands, there) = stands_for c.args.work.now.tables c.in-Some.from (unit_in site.arguments c.args.unit) (c.in-Some.ensures site at) in
    (from, c.in_ok-to.ensures.grows.holders c.in-Some.from.0 from there)

pub add_constraint_at-requires-clause-constraint : goal.add_constraint_at-requires-clause-constraint
add_constraint_at-requires-clause-constraint c =
    let h = variable (Parameter c.args.target c.in_ok-next_number.field-0) in
    (copy_to h, (h, c.in_ok-to.ensures.stands h refl, refl))

pub returns : goal.returns
returns c =
    IfOk-weaker c.add_constraint_at.result _ _
    (λ done made site at.
    let (from, stands, there) = stands_for c.args.work.now.tables c.in-Some.from (unit_in site.arguments c.args.unit) (c.in-Some.ensures site at) in
    let to = λ (slot : ℕ). variable (Parameter c.args.target slot) in
    let slot = c.in_ok-next_number.field-0 in
    unit_passed c.args.work.now.tables c.add_constraint_at.new.work.tables site c.args.target c.args.unit from c.args.work.now.steps.items c.add_constraint_at.new.work.steps.items stands
    (ap (λ (k : CallKind). is_passed k c.args.unit) (c.call_of.ensures site at).kind ∙ sym c.is_passed.ensures ∙ c.if-not-is_passed.false)
    (subst (λ (k : ℕ). Makes c.args.work.now.tables c.add_constraint_at.new.work.tables (λ (x : RuleItem). x ≡ constrained from (copy_to (to k))) c.args.work.now.steps.items c.add_constraint_at.new.work.steps.items) c.in_ok-next_number.ensures.number
    (makes_grown c.args.work.now.tables c.place.new.self c.add_constraint_at.new.work.tables (λ (x : RuleItem). x ≡ constrained from (copy_to (to slot))) c.args.work.now.steps.items c.add_constraint_at.new.work.steps.items
    c.in_ok-to.ensures.grows c.in_ok-to.ensures.calls
    (made from (copy_to (to slot)) (c.in_ok-to.ensures.grows.holders c.in-Some.from.0 from there) (to slot, c.in_ok-to.ensures.stands (to slot) refl, refl)))))
    c.add_constraint_at.ensures
