use Rattle.points_to_constraints.specs.Items.{copy_to, constrained}
use Rattle.points_to_methods.specs.Fixed.{holder_of}
use Rattle.points_to_methods.specs.Known.{names_at}
use Rattle.points_to_numbers.proofs.Making.{makes_same}
use Rattle.points_to_methods.proofs.AccessedSlots.{made_here}
use Rattle.points_to_methods.proofs.accesses.leave_slot.Goals as goal

pub returns : goal.returns
returns c = λ n at.
    let l = c.args.at.now.method.now in
    makes_same c.args.work.now.tables c.pass.new.work.tables _ _ c.args.work.now.steps.items c.pass.new.work.steps.items
    (made_here c.args.at.now.program.now l (names_at c.args.at.now) c.requires.known c.args.from.node n at (λ h. constrained h (copy_to (holder_of c.args.to))) c.args.from.slot
    (holder_of c.slot_place-source.result) c.slot_place-source.ensures)
    c.in_ok-pass.ensures
