use Rattle.points_to_constraints.specs.NodeItems.{ReadsItem}
use Rattle.points_to_methods.specs.Fixed.{holder_of, constraint_by}
use Rattle.points_to_methods.specs.Known.{names_at}
use Rattle.points_to_numbers.proofs.Making.{makes_same}
use Rattle.points_to_methods.proofs.AccessedSlots.{read_after}
use Rattle.points_to_methods.proofs.accesses.read_slot.Goals as goal

pub returns : goal.returns
returns c = λ n at.
    let l = c.args.at.now.method.now in
    makes_same c.args.work.now.tables c.pass_after.new.work.tables _ (ReadsItem l n c.args.from.slot c.args.target (constraint_by c.args.passing)) c.args.work.now.steps.items c.pass_after.new.work.steps.items
    (read_after c.args.at.now.program.now l (names_at c.args.at.now) c.requires.known c.args.from.node n at (constraint_by c.args.passing) c.args.from.slot c.args.target (holder_of c.slot_place.result) c.slot_place.ensures)
    (c.in_ok-pass_after.ensures n at)
