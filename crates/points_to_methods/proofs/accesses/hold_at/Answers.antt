use Rattle.points_to_constraints.specs.Items.{Item, known}
use Rattle.points_to_rules.specs.Facts.{Holder, may_hold}
use Rattle.points_to_methods.specs.Fixed.{holder_of}
use Rattle.points_to_methods.specs.Known.{names_at}
use Rattle.points_to_methods.specs.Slots.{MadeAt}
use Rattle.points_to_numbers.proofs.Making.{makes_none, makes_same}
use Rattle.points_to_methods.proofs.AccessedSlots.{made_at}
use Rattle.points_to_methods.proofs.accesses.hold_at.Goals as goal

pub returns-in_default : goal.returns-in_default
returns-in_default c = λ s there.
    let l = c.args.at.now.method.now in
    makes_none c.args.work.now.tables (MadeAt l (names_at c.args.at.now) (λ to. known (may_hold to s)) c.args.target c.args.offset) c.args.work.now.steps.items
    (λ x (next, stands, rest). c.in_default.ensures.place next stands)

pub returns : goal.returns
returns c = λ s there.
    let l = c.args.at.now.method.now in
    let make : Holder → Item = (λ to. known (may_hold to s)) in
    makes_same c.args.work.now.tables c.hold.new.work.tables _ (MadeAt l (names_at c.args.at.now) make c.args.target c.args.offset) c.args.work.now.steps.items c.hold.new.work.steps.items
    (made_at c.args.at.now.program.now l (names_at c.args.at.now) c.requires.known make c.args.target c.args.offset c.in-Some.next (holder_of c.slot_place-to.result) c.in-Some.ensures.place c.slot_place-to.ensures)
    (c.in_ok-hold.ensures s there)
