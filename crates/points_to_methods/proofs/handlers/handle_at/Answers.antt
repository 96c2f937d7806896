use Rattle.std.proofs.Common.{ℕ, arith}
use Rattle.points_to_constraints.specs.Items.{Item}
use Rattle.points_to_methods.specs.Known.{names_at}
use Rattle.points_to_methods.specs.Slots.{HandsTo, PassesSlot}
use Rattle.points_to_numbers.proofs.Making.{makes_none, makes_same, makes_below_start, makes_below_all, makes_below_next}
use Rattle.points_to_methods.proofs.EnteredSlots.{handed_at}
use Rattle.points_to_methods.proofs.handlers.handle_at.Goals as goal

pub returns-in_default : goal.returns-in_default
returns-in_default c =
    let l = c.args.at.now.method.now in
    makes_none c.args.work.now.tables (HandsTo l (names_at c.args.at.now) c.args.node c.args.offset) c.args.work.now.steps.items
    (λ x (next, stands, rest). c.in_default.ensures.place next stands)

pub loop-slot-init : goal.loop-slot-init
loop-slot-init c =
    makes_below_start (λ z. PassesSlot (names_at c.args.at.now) c.args.node z c.in-Some.next z) c.args.work.now.tables c.args.work.now.steps.items

pub loop-slot-preserved : goal.loop-slot-preserved
loop-slot-preserved c =
    let l = c.args.at.now.method.now in
    let P : ℕ → Item → Type 0 = λ z. PassesSlot (names_at c.args.at.now) c.args.node z c.in-Some.next z in
    makes_below_next P c.args.work.now.tables c.loop-slot.work.tables c.pass_slot.new.work.tables c.loop-slot.slot
    c.args.work.now.steps.items c.loop-slot.work.steps.items c.pass_slot.new.work.steps.items c.loop-slot.invariant c.in_ok-pass_slot.ensures

pub returns : goal.returns
returns c =
    let l = c.args.at.now.method.now in
    let P : ℕ → Item → Type 0 = λ z. PassesSlot (names_at c.args.at.now) c.args.node z c.in-Some.next z in
    makes_same c.args.work.now.tables c.loop-slot.work.tables _ (HandsTo l (names_at c.args.at.now) c.args.node c.args.offset) c.args.work.now.steps.items c.loop-slot.work.steps.items
    (λ x. ((λ rest. (c.in-Some.next, c.in-Some.ensures.place, rest)), (λ (next, stands, rest). handed_at c.args.at.now.program.now l (names_at c.args.at.now) c.requires.known c.args.node c.args.offset next c.in-Some.next stands c.in-Some.ensures.place x rest)))
    (makes_below_all P c.args.work.now.tables c.loop-slot.work.tables c.loop-slot.slot l.slots
    c.args.work.now.steps.items c.loop-slot.work.steps.items (omega arith) c.loop-slot.invariant)
