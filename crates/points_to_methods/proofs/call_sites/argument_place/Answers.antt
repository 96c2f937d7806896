use Rattle.std.proofs.Common.{sym, subst}
use Rattle.points_to_methods.specs.Fixed.{holder_of}
use Rattle.points_to_methods.specs.Known.{names_at}
use Rattle.points_to_methods.proofs.NamedSlots.{slot_has}
use Rattle.points_to_rules.specs.Rules.{IsSlot}
use Rattle.points_to_methods.proofs.NumberedSites.{primitive_unit, unit_there}
use Rattle.points_to_methods.proofs.call_sites.argument_place.Goals as goal

pub place-requires : goal.place-requires
place-requires c = (holder_of c.slot_place.result, c.key_of.ensures c.args.tables.now)

pub returns-in_default : goal.returns-in_default
returns-in_default c = λ n at. primitive_unit c.args.at.now.method.now n c.args.tables.now c.args.argument c.in_default.is

pub returns : goal.returns
returns c = λ n at.
    let l = c.args.at.now.method.now in
    let slot = c.in-Some.slot in
    let h = holder_of c.slot_place.result in
    unit_there l n c.args.tables.now c.place.new.self c.args.argument slot c.in_ok-place.place h c.in-Some.is c.in_ok-place.ensures.grows c.in_ok-place.ensures.calls
    (subst (IsSlot l n slot) (sym c.slot_place.ensures) (slot_has c.args.at.now.program.now l (names_at c.args.at.now) c.requires.known c.args.node n at slot))
    (c.in_ok-place.ensures.stands h (c.key_of.ensures c.args.tables.now))
