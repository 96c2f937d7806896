use Rattle.std.proofs.Common.{◌≡◌}
use Rattle.points_to_constraints.specs.Items.{copy_to, constrained}
use Rattle.points_to_methods.specs.Fixed.{holder_of}
use Rattle.points_to_methods.specs.Known.{names_at}
use Rattle.points_to_methods.specs.Slots.{slot_holder}
use Rattle.points_to_numbers.proofs.Making.{makes_item}
use Rattle.points_to_methods.proofs.slots.pass_slot.Goals as goal

pub returns : goal.returns
returns c =
    let l = c.args.at.now.method.now in
    let names = names_at c.args.at.now in
    let from = c.args.from in
    let to = c.args.to in
    let same : constrained (holder_of c.slot_place-source.result) (copy_to (holder_of c.slot_place-target.result)) ≡ constrained (slot_holder names from.node from.slot) (copy_to (slot_holder names to.node to.slot)) = cc in
    makes_item c.args.work.now.tables c.pass.new.work.tables _ _ c.args.work.now.steps.items c.pass.new.work.steps.items same c.in_ok-pass.ensures
