use Rattle.std.proofs.Common.{◌≡◌, refl}
use Rattle.points_to_rules.specs.Facts.{kept_objects, may_run, thrown_by}
use Rattle.points_to_constraints.specs.Items.{Item as RuleItem, known, copy_to, constrained}
use Rattle.points_to_numbers.specs.declared.item.Item.TheVariants.{Runs}
use Rattle.points_to_rules.specs.declared.place.Place.TheVariants as places
use Rattle.points_to_numbers.specs.declared.keys.Constraint.TheVariants as constraints
use Rattle.points_to_numbers.proofs.Making.{makes_both, makes_grown, makes_one, makes_constrained}
use Rattle.points_to_methods.specs.Initiated.{IsInitiated}
use Rattle.points_to_methods.proofs.triggers.initiated_items.Goals as goal

pub add_constraint-requires-clause-constraint : goal.add_constraint-requires-clause-constraint
add_constraint-requires-clause-constraint c = (copy_to kept_objects, (kept_objects, c.in_ok-kept.ensures.stands kept_objects refl, refl))

pub returns : goal.returns
returns c =
    let i = c.args.initialiser in
    let one = c.args.work.now.tables in
    let two = c.place.new.self in
    let three = c.add_constraint.new.self.tables in
    let before = c.args.work.now.steps.items in
    let pushed = c.push.new.self.items in
    let after = c.add_constraint.new.self.steps.items in
    let facts = c.in_ok-add_constraint.ensures in
    let Run : RuleItem → Type 0 = (λ x. x ≡ known (may_run i)) in
    let Keep : RuleItem → Type 0 = (λ x. x ≡ constrained (thrown_by i) (copy_to kept_objects)) in
    let first = makes_one two Run before pushed (Runs i) (known (may_run i)) c.in_ok-push.ensures.items refl refl (λ y e. e) in
    let second = makes_constrained two three (places.Thrown i) (constraints.CopyTo c.in_ok-kept.kept) (thrown_by i) (copy_to kept_objects) pushed after refl
    (kept_objects, c.in_ok-kept.ensures.stands kept_objects refl, refl) facts.grows facts.calls facts.adds in
    makes_grown one two three (IsInitiated i) before after c.in_ok-kept.ensures.grows c.in_ok-kept.ensures.calls (makes_both two two three Run Keep before pushed after first second)
