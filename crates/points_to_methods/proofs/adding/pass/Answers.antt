use Rattle.points_to_numbers.proofs.AddedItems.{adds_constrained}
use Rattle.points_to_methods.specs.Fixed.{holder_of, constraint_by}
use Rattle.points_to_numbers.proofs.Making.{makes_added, makes_grown}
use Rattle.points_to_methods.proofs.adding.pass.Goals as goal

pub place-requires : goal.place-requires
place-requires c = (holder_of c.args.to, c.key_of.ensures c.args.work.now.tables)

pub constraint_of-requires : goal.constraint_of-requires
constraint_of-requires c = (holder_of c.args.to, c.in_ok-to.ensures.stands (holder_of c.args.to) (c.key_of.ensures c.args.work.now.tables))

pub add_constraint-requires-clause-place : goal.add_constraint-requires-clause-place
add_constraint-requires-clause-place c = (holder_of c.args.from, c.key_of-2.ensures c.constraint_of.new.tables)

pub add_constraint-requires-clause-constraint : goal.add_constraint-requires-clause-constraint
add_constraint-requires-clause-constraint c =
    (constraint_by c.args.passing (holder_of c.args.to), c.in_ok-constraint.ensures.stands (holder_of c.args.to) (c.in_ok-to.ensures.stands (holder_of c.args.to) (c.key_of.ensures c.args.work.now.tables)))

pub returns : goal.returns
returns c =
    let to = holder_of c.args.to in
    let constraint = constraint_by c.args.passing to in
    let one = c.args.work.now.tables in
    let two = c.place.new.self in
    let three = c.constraint_of.new.tables in
    let four = c.add_constraint.new.self.tables in
    let before = c.args.work.now.steps.items in
    let after = c.add_constraint.new.self.steps.items in
    let facts = c.in_ok-add_constraint.ensures in
    let is_constraint = c.in_ok-constraint.ensures.stands to (c.in_ok-to.ensures.stands to (c.key_of.ensures one)) in
    makes_grown one two four _ before after c.in_ok-to.ensures.grows c.in_ok-to.ensures.calls
    (makes_grown two three four _ before after c.in_ok-constraint.ensures.grows c.in_ok-constraint.ensures.calls
    (makes_added three four _ before after facts.grows facts.calls
    (adds_constrained three four c.key_of-2.result c.in_ok-constraint.constraint (holder_of c.args.from) constraint before after (c.key_of-2.ensures three) is_constraint facts.adds)))
