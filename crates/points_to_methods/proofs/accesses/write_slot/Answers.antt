use Rattle.points_to_constraints.specs.Items.{constrained}
use Rattle.points_to_constraints.specs.NodeItems.{WritesItem}
use Rattle.points_to_methods.specs.Fixed.{holder_of, constraint_by}
use Rattle.points_to_methods.specs.Known.{names_at}
use Rattle.points_to_numbers.proofs.Making.{makes_same}
use Rattle.points_to_methods.proofs.AccessedSlots.{made_of_two}
use Rattle.points_to_methods.proofs.accesses.write_slot.Goals as goal

pub returns : goal.returns
returns c = λ n at.
    let l = c.args.at.now.method.now in
    makes_same c.args.work.now.tables c.pass.new.work.tables _ (WritesItem l n c.args.into.slot c.args.value (constraint_by c.args.passing)) c.args.work.now.steps.items c.pass.new.work.steps.items
    (made_of_two c.args.at.now.program.now l (names_at c.args.at.now) c.requires.known c.args.into.node n at (λ into from. constrained into (constraint_by c.args.passing from)) c.args.into.slot c.args.value
    (holder_of c.slot_place-from.result) (holder_of c.slot_place-to.result) c.slot_place-from.ensures c.slot_place-to.ensures)
    c.in_ok-pass.ensures
