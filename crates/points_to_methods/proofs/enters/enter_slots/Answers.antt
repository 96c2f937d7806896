use Rattle.std.proofs.Common.{◌+◌, ap, arith}
use Rattle.points_to_constraints.specs.Items.{copy_to, constrained}
use Rattle.points_to_rules.specs.Facts.{Holder, variable}
use Rattle.slot_names.specs.declared.variable.Variable.TheVariants.{Parameter}
use Rattle.points_to_methods.specs.Known.{names_at}
use Rattle.points_to_methods.specs.Slots.{EntersSlot}
use Rattle.points_to_numbers.proofs.Making.{makes_below_start, makes_below_all, makes_below_next, makes_item}
use Rattle.points_to_methods.proofs.enters.enter_slots.Goals as goal

pub loop-slot-init : goal.loop-slot-init
loop-slot-init c = makes_below_start (EntersSlot (names_at c.args.at.now) c.args.at.now.method.now.method) c.args.work.now.tables c.args.work.now.steps.items

pub loop-slot-preserved : goal.loop-slot-preserved
loop-slot-preserved c =
    let l = c.args.at.now.method.now in
    makes_below_next (EntersSlot (names_at c.args.at.now) l.method) c.args.work.now.tables c.loop-slot.work.tables c.pass.new.work.tables c.loop-slot.slot
    c.args.work.now.steps.items c.loop-slot.work.steps.items c.pass.new.work.steps.items c.loop-slot.invariant
    (makes_item c.loop-slot.work.tables c.pass.new.work.tables _ _ c.loop-slot.work.steps.items c.pass.new.work.steps.items
    (ap (λ (h : Holder). constrained (variable (Parameter l.method c.loop-slot.slot)) (copy_to h)) c.slot_place.ensures) c.in_ok-pass.ensures)

pub returns : goal.returns
returns c =
    let l = c.args.at.now.method.now in
    makes_below_all (EntersSlot (names_at c.args.at.now) l.method) c.args.work.now.tables c.loop-slot.work.tables c.loop-slot.slot (l.slots + l.stack)
    c.args.work.now.steps.items c.loop-slot.work.steps.items (omega (arith, c.in_ok-slot-end.ensures)) c.loop-slot.invariant
