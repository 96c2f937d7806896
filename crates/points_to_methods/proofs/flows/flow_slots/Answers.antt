use Rattle.std.proofs.Common.{ℕ, ◌+◌, subst, arith}
use Rattle.points_to_constraints.specs.Items.{Item}
use Rattle.slot_names.specs.Variables.{Effect, effect_on}
use Rattle.points_to_numbers.specs.Steps.{Makes}
use Rattle.points_to_methods.specs.Known.{names_at}
use Rattle.points_to_methods.specs.Slots.{PassesBy}
use Rattle.points_to_numbers.proofs.Making.{makes_below_start, makes_below_all, makes_below_next}
use Rattle.points_to_methods.proofs.flows.flow_slots.Goals as goal

pub loop-slot-init : goal.loop-slot-init
loop-slot-init c =
    makes_below_start (λ z. PassesBy (names_at c.args.at.now) c.args.node c.args.next z (effect_on z c.args.op.now)) c.args.work.now.tables c.args.work.now.steps.items

pub loop-slot-preserved : goal.loop-slot-preserved
loop-slot-preserved c =
    let l = c.args.at.now.method.now in
    let P : ℕ → Item → Type 0 = λ z. PassesBy (names_at c.args.at.now) c.args.node c.args.next z (effect_on z c.args.op.now) in
    makes_below_next P c.args.work.now.tables c.loop-slot.work.tables c.flow_slot.new.work.tables c.loop-slot.slot
    c.args.work.now.steps.items c.loop-slot.work.steps.items c.flow_slot.new.work.steps.items c.loop-slot.invariant
    (subst (λ (e : Effect). Makes c.loop-slot.work.tables c.flow_slot.new.work.tables (PassesBy (names_at c.args.at.now) c.args.node c.args.next c.loop-slot.slot e) c.loop-slot.work.steps.items c.flow_slot.new.work.steps.items)
    c.effect_on.ensures c.in_ok-flow_slot.ensures)

pub returns : goal.returns
returns c =
    let l = c.args.at.now.method.now in
    let P : ℕ → Item → Type 0 = λ z. PassesBy (names_at c.args.at.now) c.args.node c.args.next z (effect_on z c.args.op.now) in
    makes_below_all P c.args.work.now.tables c.loop-slot.work.tables c.loop-slot.slot (l.slots + l.stack)
    c.args.work.now.steps.items c.loop-slot.work.steps.items (omega (arith, c.in_ok-slot-end.ensures)) c.loop-slot.invariant
