use Rattle.std.proofs.Common.{ap, sym, ◌∙◌, subst, refl, slice_get, List, Option}
use Rattle.std.proofs.lemmas.Option.{slice_get_read, slice_get_past}
use Rattle.points_to_rules.specs.declared.place.PlaceNo.{PlaceNo}
use Rattle.points_to_numbers.specs.Numbered.{IsUnitAt}
use Rattle.points_to_calls.proofs.CallParts.{results_at}
use Rattle.points_to_calls.proofs.reading.result_of.Goals as goal

pub returns-in-Some : goal.returns-in-Some
returns-in-Some c = λ site at.
    let h = c.in-Some.ensures.lookup in let xs = c.as_slice.result.now in
    subst (λ (o : Option PlaceNo). IsUnitAt c.args.tables.now o (slice_get site.results c.args.number))
    (ap (λ (us : List PlaceNo). slice_get us c.args.number) (sym c.as_slice.ensures) ∙ slice_get_read xs _ c.args.number c.in-Some.place.now refl h.3.0 h.1)
    (results_at c.args.tables.now c.call_of.result.now.results site.results c.args.number (c.call_of.ensures site at).results)

pub returns-in-None : goal.returns-in-None
returns-in-None c = λ site at.
    let h = c.in-None.ensures.lookup in let xs = c.as_slice.result.now in
    subst (λ (o : Option PlaceNo). IsUnitAt c.args.tables.now o (slice_get site.results c.args.number))
    (ap (λ (us : List PlaceNo). slice_get us c.args.number) (sym c.as_slice.ensures) ∙ slice_get_past xs c.args.number h.3)
    (results_at c.args.tables.now c.call_of.result.now.results site.results c.args.number (c.call_of.ensures site at).results)
