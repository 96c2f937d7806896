-- The pairs of places and sites that lines list.
use Rattle.std.proofs.Common.{◌≡◌, ◌<◌, length, List, [], ◌∷◌, Some, refl, sym, ◌∙◌, ap, subst}
use Rattle.std.specs.List.{slice_get, Contains}
use Rattle.std.proofs.lemmas.List.Elements.{Contains-append_left, Contains-push}
use Rattle.std.proofs.lemmas.Option.{slice_get_within}
use Rattle.list_laws.proofs.Members.{contains_first}
use Rattle.list_laws.proofs.Places.{place_of}
use Rattle.std.specs.declared.alloc.Global.{Global}
use Rattle.std.specs.declared.vec.Vec.{Vec}
use Rattle.jvm_model.specs.declared.number.SiteNo.{SiteNo}
use Rattle.jvm_model.specs.declared.site.Site.{Site}
use Rattle.least_sets.specs.Rules.{IsWithoutDoubles}
use Rattle.points_to_rules.specs.declared.place.Place.{Place}
use Rattle.points_to_rules.specs.declared.place.Place.TheVariants as places
use Rattle.points_to_rules.specs.Places.{IsHolderIn}
use Rattle.points_to_rules.proofs.PlaceHolders.{places_differ}
use Rattle.certificate_lines.specs.LineTexts.{holder_of}
use Rattle.certificate_lines.specs.declared.line.Holder.{Holder}
use Rattle.certificate_lines.specs.declared.line.Holder.TheVariants as holders
use Rattle.certificate_lines.specs.declared.line.Line.{Line}
use Rattle.certificate_lines.specs.declared.line.Line.TheVariants.{PointsTo}
use Rattle.certificate_ground.specs.Held.{IsHeldBy, IsHeldIn}
use Rattle.certificate_ground.specs.Listed.{holder_sites, named_sites}
use Rattle.certificate_ground.specs.Pairs.{AddsPairs, ArePairs, IsJust, IsPair}
use Rattle.certificate_ground.specs.Sites.{HasAll}
use Rattle.certificate_ground.proofs.PairTables.{pairs_as, pairs_none}

-- what a line of a pair names has numbers
module _ (holder : Holder) (site : Site) (sites : List Site) (named : HasAll (named_sites (PointsTo holder site)) sites) where
  pub site_named : Contains sites site
  site_named = named.each site (Contains-push (holder_sites holder) site)

  pub holder_named : HasAll (holder_sites holder) sites
  holder_named = record { each = λ s there. named.each s (Contains-append_left (holder_sites holder) (site ∷ []) s there) }

-- a place stands for the holder
pub place_there : (sites : List Site) (holder : Holder) → HasAll (holder_sites holder) sites → (place : Place) × IsHolderIn sites place (holder_of holder)
place_there sites (holders.Variable v) named = (places.Variable v, refl)
place_there sites (holders.Field s f) named = let (k, at) = place_of sites s (named.each s (contains_first s [])) in (places.Field (record { 0 = k }) f, (s, at, refl))
place_there sites (holders.Elements s) named = let (k, at) = place_of sites s (named.each s (contains_first s [])) in (places.Elements (record { 0 = k }), (s, at, refl))
place_there sites (holders.Static f) named = (places.Static f, refl)
place_there sites holders.Kept named = (places.Kept, refl)
place_there sites (holders.Returned m) named = (places.Returned m, refl)
place_there sites (holders.Thrown m) named = (places.Thrown m, refl)

-- a line of a pair lists just that pair
pub pair_line : (sites : List Site) → IsWithoutDoubles sites → (x : Line) (holder : Holder) (site : Site) → x ≡ PointsTo holder site → (place : Place) → IsHolderIn sites place (holder_of holder)
    → (number : SiteNo) → slice_get sites number.0 ≡ Some site → (ka : List Place) (ga : List (Vec SiteNo Global)) (kb : List Place) (gb : List (Vec SiteNo Global))
    → AddsPairs (IsJust place number) ka ga kb gb → AddsPairs (IsHeldBy sites x) ka ga kb gb
pair_line sites apart x holder site is place stands number numbered ka ga kb gb added =
    pairs_as (IsJust place number) (IsHeldBy sites x) ka ga kb gb
    (λ p n (same_place, same). record {
      holder = holder;
      site = site;
      is = is;
      stands = subst (λ (q : Place). IsHolderIn sites q (holder_of holder)) (sym same_place) stands;
      numbered = ap (λ (k : SiteNo). slice_get sites k.0) same ∙ numbered;
    })
    (λ p n by.
    let lines : PointsTo by.holder by.site ≡ PointsTo holder site = sym by.is ∙ is in
    let holders : by.holder ≡ holder = cc in
    let sites_are : by.site ≡ site = cc in
    let there = subst (λ (h : Holder). IsHolderIn sites p (holder_of h)) holders by.stands in
    let same = apart site n.0 number.0 (by.numbered ∙ ap Some sites_are) numbered in
    (places_differ sites apart p place (holder_of holder) there stands, (λ i. record { 0 = same i })))
    added

-- another line lists none
pub other_line : (sites : List Site) (x : Line) → ((holder : Holder) (site : Site) → x ≡ PointsTo holder site → ⊥) → (ks : List Place) (gs : List (Vec SiteNo Global))
    → AddsPairs (IsHeldBy sites x) ks gs ks gs
other_line sites x none ks gs = pairs_none (IsHeldBy sites x) ks gs (λ p n by. none by.holder by.site by.is)

-- a site that a place holds has a number
pub held_within : (sites : List Site) (all : List Line) (ks : List Place) (gs : List (Vec SiteNo Global)) → ArePairs (IsHeldIn sites all) ks gs → (place : Place) (number : SiteNo)
    → IsPair ks gs place number → number.0 < length sites
held_within sites all ks gs are place number pair =
    let (x, listed, by) = (are.each place number).0 pair in
    slice_get_within sites number.0 by.site by.numbered
