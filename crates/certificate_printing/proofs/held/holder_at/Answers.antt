use Rattle.std.proofs.Common.{subst}
use Rattle.std.proofs.lemmas.Option.{slice_get_within}
use Rattle.list_laws.proofs.Places.{stands_below}
use Rattle.points_to_rules.specs.declared.place.Place.{Place}
use Rattle.points_to_rules.specs.Places.{IsHolderIn}
use Rattle.certificate_printing.proofs.held.holder_at.Goals as goal

pub site-requires : goal.site-requires
site-requires c =
    let g = c.args.ground.now in
    let (h, at) = stands_below g.holders c.args.place.0 c.requires in
    let held = subst (λ (p : Place). IsHolderIn g.sites p h) c.in-Field.is (c.place.ensures h at) in
    slice_get_within g.sites c.in-Field.site.0 held.0 held.1

pub site-requires-in-Elements : goal.site-requires-in-Elements
site-requires-in-Elements c =
    let g = c.args.ground.now in
    let (h, at) = stands_below g.holders c.args.place.0 c.requires in
    let held = subst (λ (p : Place). IsHolderIn g.sites p h) c.in-Elements.is (c.place.ensures h at) in
    slice_get_within g.sites c.in-Elements.site.0 held.0 held.1
