use Rattle.std.proofs.Common.{subst}
use Rattle.std.proofs.lemmas.Result.{on_ok_weaker}
use Rattle.certificate_lines.specs.declared.line.Line.{Line}
use Rattle.certificate_ground.specs.Listed.{named_sites}
use Rattle.certificate_ground.specs.Sites.{HasAll}
use Rattle.certificate_ground.proofs.HeldPairs.{holder_named, other_line, pair_line, site_named}
use Rattle.certificate_ground.proofs.held.add_line.Goals as goal

pub place_of-place-requires : goal.place_of-place-requires
place_of-place-requires c =
    holder_named c.in-PointsTo.holder c.in-PointsTo.site c.args.sites.now (subst (λ (x : Line). HasAll (named_sites x) c.args.sites.now) c.in-PointsTo.is c.requires.named)

pub number_of-requires : goal.number_of-requires
number_of-requires c =
    site_named c.in-PointsTo.holder c.in-PointsTo.site c.args.sites.now (subst (λ (x : Line). HasAll (named_sites x) c.args.sites.now) c.in-PointsTo.is c.requires.named)

pub returns-clause-pairs : goal.returns-clause-pairs
returns-clause-pairs c =
    let old = c.args.held.now in
    let new = c.add_pair.new.held in
    on_ok_weaker c.add_pair.result
    (λ added. pair_line c.args.sites.now c.apart.ensures c.args.line.now c.in-PointsTo.holder c.in-PointsTo.site c.in-PointsTo.is c.place_of-place.result c.place_of-place.ensures
    c.number_of.result c.number_of.ensures old.places.keys old.sites.groups.items new.places.keys new.sites.groups.items added)
    c.add_pair.ensures.pairs

pub returns-in_default-clause-pairs : goal.returns-in_default-clause-pairs
returns-in_default-clause-pairs c =
    let held = c.args.held.now in
    other_line c.args.sites.now c.args.line.now (λ holder site is. c.in_default.not-PointsTo holder site is) held.places.keys held.sites.groups.items
