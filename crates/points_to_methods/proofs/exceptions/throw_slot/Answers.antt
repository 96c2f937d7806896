use Rattle.std.proofs.Common.{refl}
use Rattle.points_to_constraints.specs.Items.{throw_to}
use Rattle.points_to_constraints.specs.NodeItems.{OpItem}
use Rattle.op_model.specs.declared.op.Op.TheVariants.{Throw}
use Rattle.points_to_numbers.specs.declared.keys.Constraint.TheVariants as constraints
use Rattle.points_to_numbers.specs.Numbered.{IsConstraintAt}
use Rattle.points_to_numbers.proofs.AddedItems.{adds_constrained}
use Rattle.points_to_methods.specs.Fixed.{holder_of}
use Rattle.points_to_methods.specs.Known.{names_at}
use Rattle.points_to_numbers.proofs.Making.{makes_added, makes_grown, makes_same}
use Rattle.points_to_methods.proofs.LandedNodes.{thrown_from}
use Rattle.slot_names.proofs.ListPlaces.{stands_below}
use Rattle.points_to_methods.proofs.exceptions.throw_slot.Goals as goal

pub add_constraint-requires-clause-place : goal.add_constraint-requires-clause-place
add_constraint-requires-clause-place c = (holder_of c.slot_place-from.result, c.key_of.ensures c.catch_chain_of.new.tables)

pub add_constraint-requires-clause-constraint : goal.add_constraint-requires-clause-constraint
add_constraint-requires-clause-constraint c =
    let (n, at) = stands_below c.args.at.now.method.now.nodes c.args.node c.requires.there in
    let (catch_chain, is_catch_chain, stands) = c.in_ok-catch_chain.ensures.stands n at in
    (throw_to catch_chain, (catch_chain, stands, refl))

pub returns : goal.returns
returns c = λ n at.
    let p = c.args.at.now.program.now in
    let l = c.args.at.now.method.now in
    let one = c.args.work.now.tables in
    let two = c.catch_chain_of.new.tables in
    let three = c.add_constraint.new.self.tables in
    let before = c.args.work.now.steps.items in
    let after = c.add_constraint.new.self.steps.items in
    let from = holder_of c.slot_place-from.result in
    let facts = c.in_ok-add_constraint.ensures in
    let (catch_chain, is_catch_chain, stands) = c.in_ok-catch_chain.ensures.stands n at in
    let constraint = constraints.ThrowTo c.in_ok-catch_chain.catch_chain in
    let is_constraint : IsConstraintAt two constraint (throw_to catch_chain) = (catch_chain, stands, refl) in
    makes_same one three _ (OpItem (Throw c.args.value) p l.method l n) before after
    (thrown_from p l (names_at c.args.at.now) c.requires.known c.args.node n at catch_chain is_catch_chain c.args.value from c.slot_place-from.ensures)
    (makes_grown one two three _ before after c.in_ok-catch_chain.ensures.grows c.in_ok-catch_chain.ensures.calls
    (makes_added two three _ before after facts.grows facts.calls
    (adds_constrained two three c.key_of.result constraint from (throw_to catch_chain) before after (c.key_of.ensures two) is_constraint facts.adds)))
