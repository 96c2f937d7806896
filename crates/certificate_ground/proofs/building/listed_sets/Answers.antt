use Rattle.std.proofs.Common.{List, sym, subst}
use Rattle.jvm_model.specs.declared.site.Site.{Site}
use Rattle.points_to_rules.proofs.ExactPlaces.{same_places}
use Rattle.ground.proofs.KeySets.{apart_from_distinct_keys}
use Rattle.ground.proofs.SlotPlaces.{tells_places}
use Rattle.certificate_ground.specs.Lists.{AreListedSets}
use Rattle.certificate_ground.proofs.building.listed_sets.Goals as goal

pub returns : goal.returns
returns c =
    let held = c.in_ok-held.held in
    subst (λ (sites : List Site). AreListedSets c.args.lines.now sites held c.in_ok-writes.writes.keys) (sym c.in_ok-sites.ensures)
    (record {
      named = c.in_ok-numbers.ensures;
      apart = c.apart.ensures;
      pairs = c.in_ok-held.ensures.pairs;
      places_apart = apart_from_distinct_keys same_places tells_places held.places.keys c.len-count.ensures.unique;
      few = c.in_ok-held.ensures.few;
      written = c.in_ok-writes.ensures;
    })
