use Rattle.std.proofs.Common.{sym, subst}
use Rattle.points_to_methods.specs.Fixed.{holder_of}
use Rattle.points_to_methods.specs.Known.{names_at}
use Rattle.points_to_methods.proofs.NamedSlots.{there_has}
use Rattle.points_to_rules.specs.Rules.{IsSlotAt}
use Rattle.slot_names.proofs.ListPlaces.{place_in}
use Rattle.points_to_methods.proofs.call_sites.result_place.Goals as goal

pub unreachable-requires : goal.unreachable-requires
unreachable-requires c =
    let there = c.requires.there in
    let (k, stands) = place_in c.args.at.now.method.now.nodes there.node there.stands in
    c.in_default.ensures.place k (record { node = there.node; stands = stands; is = there.at })

pub place-requires : goal.place-requires
place-requires c = (holder_of c.slot_place.result, c.key_of.ensures c.args.tables.now)

pub returns : goal.returns
returns c =
    let l = c.args.at.now.method.now in
    let h = holder_of c.slot_place.result in
    let slot = subst (IsSlotAt l c.args.offset c.args.slot) (sym c.slot_place.ensures)
    (there_has c.args.at.now.program.now l (names_at c.args.at.now) c.requires.known c.args.offset c.in-Some.next c.in-Some.ensures.place c.args.slot) in
    record {
      grows = c.in_ok-place.ensures.grows;
      calls = c.in_ok-place.ensures.calls;
      holds = (h, slot, c.in_ok-place.ensures.stands h (c.key_of.ensures c.args.tables.now));
    }
