use Rattle.std.proofs.Common.{ap, sym, ◌∙◌, subst, refl, List, Option}
use Rattle.std.proofs.lemmas.Option.{slice_get_read, slice_get_past}
use Rattle.points_to_rules.specs.declared.place.PlaceNo.{PlaceNo}
use Rattle.points_to_numbers.specs.Numbered.{IsUnitAt}
use Rattle.points_to_calls.specs.Parts.{unit_in}
use Rattle.points_to_calls.proofs.CallParts.{units_at, unit_there, no_unit_there}
use Rattle.points_to_calls.proofs.reading.argument_of.Goals as goal

pub returns-in-Some : goal.returns-in-Some
returns-in-Some c = λ site at.
    let h = c.in-Some.ensures.lookup in let xs = c.as_slice.result.now in
    let there = unit_there xs c.args.unit c.in-Some.place.now (slice_get_read xs _ c.args.unit c.in-Some.place.now refl h.3.0 h.1) in
    subst (λ (o : Option PlaceNo). IsUnitAt c.args.tables.now o (unit_in site.arguments c.args.unit))
    (ap (λ (us : List (Option PlaceNo)). unit_in us c.args.unit) (sym c.as_slice.ensures) ∙ there)
    (units_at c.args.tables.now c.call_of.result.now.arguments site.arguments c.args.unit (c.call_of.ensures site at).arguments)

pub returns-in-None : goal.returns-in-None
returns-in-None c = λ site at.
    let h = c.in-None.ensures.lookup in let xs = c.as_slice.result.now in
    let there = no_unit_there xs c.args.unit (slice_get_past xs c.args.unit h.3) in
    subst (λ (o : Option PlaceNo). IsUnitAt c.args.tables.now o (unit_in site.arguments c.args.unit))
    (ap (λ (us : List (Option PlaceNo)). unit_in us c.args.unit) (sym c.as_slice.ensures) ∙ there)
    (units_at c.args.tables.now c.call_of.result.now.arguments site.arguments c.args.unit (c.call_of.ensures site at).arguments)
