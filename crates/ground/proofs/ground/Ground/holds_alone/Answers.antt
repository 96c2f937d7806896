use Rattle.ground.proofs.LoneSites.{alone_held, held_alone}
use Rattle.ground.proofs.ground.Ground.holds_alone.Goals as goal

pub returns : goal.returns
returns c = λ h s at_place at_site.
    let sites = c.sites_at.ensures.sites h at_place in
    let apart = c.well_formed-2.ensures.sites in (
      λ yes. alone_held c.args.self.now h s c.args.site c.sites_at.result.now sites at_site (c.is_alone.ensures.0 yes),
      λ alone. c.is_alone.ensures.1 (held_alone c.args.self.now h s c.args.site c.sites_at.result.now sites at_site apart c.sites_at.ensures.within c.sites_at.ensures.ascend alone),
    )
