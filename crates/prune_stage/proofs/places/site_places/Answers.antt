use Rattle.std.proofs.Common.{◌≡◌, ℕ, ◌+◌, List, Option, length, sym, ◌∙◌, subst, arith}
use Rattle.std.proofs.lemmas.Option.{same_Some}
use Rattle.jvm_model.specs.declared.site.Site.{Site}
use Rattle.prune_stage.specs.Places.{IsPlaceIn}
use Rattle.prune_stage.proofs.NumberedPlaces.{ArePlacesUpTo, places_all, places_more, places_start}
use Rattle.prune_stage.proofs.places.site_places.Goals as goal

pub loop-number-init : goal.loop-number-init
loop-number-init c =
    let p = c.args.program.now in
    let numbered = c.args.ground.now.sites in
    record {
      places = subst (λ (places : List (Option ℕ)). ArePlacesUpTo p numbered c.args.sites.now places 0) (sym c.new-places.ensures.items)
          (places_start p numbered c.args.sites.now);
    }

pub site-requires : goal.site-requires
site-requires c = omega arith

pub loop-number-preserved : goal.loop-number-preserved
loop-number-preserved c =
    let p = c.args.program.now in
    let numbered = c.args.ground.now.sites in
    let sites = c.args.sites.now in
    let places = c.loop-number.places.items in
    let site = c.site.result.now in
    let answer = c.place_of.result in
    record {
      places = subst (λ (new : List (Option ℕ)). ArePlacesUpTo p numbered sites new (c.loop-number.number + 1)) (sym c.in_ok-push.ensures.items)
          (places_more p numbered sites places c.loop-number.number answer c.loop-number.invariant.places
          (λ s stands. subst (λ (x : Site). IsPlaceIn p sites x answer) (same_Some site s (sym c.site.ensures ∙ stands)) c.place_of.ensures));
    }

pub returns : goal.returns
returns c =
    let p = c.args.program.now in
    let numbered = c.args.ground.now.sites in
    let sites = c.args.sites.now in
    let places = c.loop-number.places.items in
    let all : c.loop-number.number ≡ length numbered = omega arith in
    places_all p numbered sites places (subst (λ (limit : ℕ). ArePlacesUpTo p numbered sites places limit) all c.loop-number.invariant.places)
