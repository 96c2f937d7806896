use Rattle.std.proofs.Common.{◌≡◌, refl}
use Rattle.points_to_rules.specs.Facts.{thrown_by}
use Rattle.points_to_constraints.specs.Items.{Item as RuleItem, rethrow_to, constrained}
use Rattle.points_to_rules.specs.declared.place.Place.TheVariants as places
use Rattle.points_to_numbers.specs.declared.keys.Constraint.TheVariants as constraints
use Rattle.points_to_numbers.proofs.Making.{makes_both, makes_constrained}
use Rattle.points_to_methods.specs.Initiated.{IsInitiated}
use Rattle.points_to_methods.proofs.triggers.started_items.Goals as goal

pub add_constraint-requires-clause-constraint : goal.add_constraint-requires-clause-constraint
add_constraint-requires-clause-constraint c =
    let (catch_chain, stands) = c.requires in
    (rethrow_to catch_chain, (catch_chain, c.in_ok-initiated_items.ensures.grows.catch_chains c.args.catch_chain.0 catch_chain stands, refl))

pub returns : goal.returns
returns c = λ catch_chain stands.
    let i = c.args.initialiser in
    let one = c.args.work.now.tables in
    let two = c.initiated_items.new.work.tables in
    let three = c.add_constraint.new.self.tables in
    let before = c.args.work.now.steps.items in
    let between = c.initiated_items.new.work.steps.items in
    let after = c.add_constraint.new.self.steps.items in
    let first = c.in_ok-initiated_items.ensures in
    let facts = c.in_ok-add_constraint.ensures in
    let Land : RuleItem → Type 0 = (λ x. x ≡ constrained (thrown_by i) (rethrow_to catch_chain)) in
    let second = makes_constrained two three (places.Thrown i) (constraints.RethrowTo c.args.catch_chain) (thrown_by i) (rethrow_to catch_chain) between after refl
    (catch_chain, first.grows.catch_chains c.args.catch_chain.0 catch_chain stands, refl) facts.grows facts.calls facts.adds in
    makes_both one two three (IsInitiated i) Land before between after first second
