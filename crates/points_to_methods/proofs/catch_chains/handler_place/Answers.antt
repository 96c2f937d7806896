use Rattle.std.proofs.Common.{sym, subst}
use Rattle.points_to_methods.specs.Known.{names_at}
use Rattle.points_to_rules.specs.Facts.{Holder}
use Rattle.points_to_rules.specs.Rules.{IsSlotAt}
use Rattle.slot_names.proofs.ListPlaces.{place_in}
use Rattle.points_to_methods.proofs.NamedSlots.{there_has}
use Rattle.points_to_methods.proofs.catch_chains.handler_place.Goals as goal

pub unreachable-requires : goal.unreachable-requires
unreachable-requires c =
    let there = c.requires.there in
    let (k, stands) = place_in c.args.at.now.method.now.nodes there.node there.stands in
    c.in_default.ensures.place k (record { node = there.node; stands = stands; is = there.at })

pub returns : goal.returns
returns c =
    let l = c.args.at.now.method.now in
    let offset = c.args.handler.target in
    subst (λ (h : Holder). IsSlotAt l offset l.slots h) (sym c.slot_place.ensures)
    (there_has c.args.at.now.program.now l (names_at c.args.at.now) c.requires.known offset c.in-Some.next c.in-Some.ensures.place l.slots)
