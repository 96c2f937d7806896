use Rattle.std.proofs.Common.{subst}
use Rattle.std.specs.List.{Contains}
use Rattle.jvm_model.specs.declared.number.SiteNo.{SiteNo}
use Rattle.ground.proofs.ground.Ground.holds.Goals as goal

pub returns : goal.returns
returns c = λ h s at_place at_site.
    let numbers = c.sites_at.result.now in
    let told = c.is_among.ensures in
    let sites = (c.sites_at.ensures.sites h at_place).each s in (
      λ holds. sites.1 (c.args.site, told.0 holds, at_site),
      λ there.
          let (number, among, stands) = sites.0 there in
          let same = c.well_formed-2.ensures.sites s number.0 c.args.site.0 stands at_site in
          told.1 (subst (λ (x : SiteNo). Contains numbers x) (λ i. record { 0 = same i }) among),
    )
