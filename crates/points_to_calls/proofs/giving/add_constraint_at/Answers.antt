use Rattle.std.proofs.Common.{◌≡◌, refl}
use Rattle.points_to_numbers.specs.declared.item.Item.TheVariants.{Constrains}
use Rattle.points_to_constraints.specs.Items.{Item as RuleItem, constrained}
use Rattle.points_to_numbers.proofs.Making.{makes_grown, makes_one}
use Rattle.points_to_calls.proofs.giving.add_constraint_at.Goals as goal

pub returns : goal.returns
returns c = λ h u held is.
    let e = c.in_ok-constraint.ensures in
    makes_grown c.args.work.now.tables c.constraint.new.self c.constraint.new.self (λ (x : RuleItem). x ≡ constrained h u) c.args.work.now.steps.items c.push.new.self.items e.grows e.calls
    (makes_one c.constraint.new.self (λ (x : RuleItem). x ≡ constrained h u) c.args.work.now.steps.items c.push.new.self.items (Constrains c.args.place c.in_ok-constraint.constraint) (constrained h u) c.in_ok-push.ensures.items
    (h, u, e.grows.holders c.args.place.0 h held, e.stands u is, refl) refl (λ y q. q))
