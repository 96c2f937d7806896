-- A place that holds objects of one site alone.
use Rattle.std.proofs.Common.{◌≡◌, ◌<◌, List, [], ◌∷◌, length, Some, sym, ◌∙◌, ap, subst}
use Rattle.std.specs.List.{slice_get, Contains}
use Rattle.std.proofs.lemmas.Option.{same_Some}
use Rattle.list_laws.proofs.Members.{contains_first, contains_only}
use Rattle.list_laws.proofs.Places.{stands_below}
use Rattle.jvm_model.specs.declared.number.SiteNo.{SiteNo}
use Rattle.jvm_model.specs.declared.site.Site.{Site}
use Rattle.least_sets.specs.Rules.{IsWithoutDoubles}
use Rattle.points_to_rules.specs.Facts.{Holder}
use Rattle.ground.specs.Findings.{AreSitesOf, Findings, HoldsAlone}
use Rattle.ground.specs.Ordered.{DoAscend, site_number}
use Rattle.ground.proofs.AscendingNumbers.{one_alone}

module _ (g : Findings) (h : Holder) (s : Site) (site : SiteNo) (numbers : List SiteNo) (sites : AreSitesOf g h numbers) (at : slice_get g.sites site.0 ≡ Some s) where
  pub alone_held : numbers ≡ site ∷ [] → HoldsAlone g h s
  alone_held is = record {
    holds = (sites.each s).1 (site, subst (λ (ns : List SiteNo). Contains ns site) (sym is) (contains_first site []), at);
    only = λ other there.
        let (number, among, stands) = (sites.each other).0 there in
        let same = contains_only site number (subst (λ (ns : List SiteNo). Contains ns number) is among) in
        same_Some other s (sym stands ∙ ap (λ (n : SiteNo). slice_get g.sites n.0) (sym same) ∙ at);
  }

  pub held_alone : IsWithoutDoubles g.sites → ((number : SiteNo) → Contains numbers number → number.0 < length g.sites) → DoAscend site_number numbers → HoldsAlone g h s → numbers ≡ site ∷ []
  held_alone apart within ascend alone =
      let (number, among, stands) = (sites.each s).0 alone.holds in
      let here = apart s number.0 site.0 stands at in
      one_alone site_number numbers site ascend (subst (λ (n : SiteNo). Contains numbers n) (λ i. record { 0 = here i }) among)
      (λ other there.
      let (x, x_at) = stands_below g.sites other.0 (within other there) in
      let same : x ≡ s = alone.only x ((sites.each x).1 (other, there, x_at)) in
      let one = apart s other.0 site.0 (x_at ∙ ap Some same) at in
      (λ i. record { 0 = one i }))
