use Rattle.std.proofs.Common.{refl, sym, ◌∙◌}
use Rattle.prune_stage.proofs.NumberedPlaces.{tracking_class, tracking_none}
use Rattle.prune_stage.proofs.places.tracked_site.Goals as goal

pub returns-in-Some : goal.returns-in-Some
returns-in-Some c =
    let s = c.args.site.now in
    let found = c.in-Some.ensures.found in
    tracking_class c.args.program.now s c.well_formed-2.ensures.program s.kind s.method s.offset c.in-Some.class refl refl refl found.0
    (found.1 ∙ c.as_slice.ensures)

pub returns-in-None : goal.returns-in-None
returns-in-None c =
    tracking_none c.args.program.now c.args.site.now (λ n within named. c.in-None.ensures.none n within (named ∙ sym c.as_slice.ensures))
