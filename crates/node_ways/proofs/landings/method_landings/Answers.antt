use Rattle.std.proofs.Common.{[], get_or, subst}
use Rattle.std.proofs.lemmas.Option.{slice_get-get_or}
use Rattle.list_laws.proofs.Places.{contains_at}
use Rattle.jvm_model.specs.declared.number.SiteNo.{SiteNo}
use Rattle.jvm_model.specs.Programs.{Program}
use Rattle.ground.specs.Added.{AreAdded}
use Rattle.ground.proofs.Adding.{added_all, added_more}
use Rattle.node_ways.specs.Parts.{LandsAt, SiteLands}
use Rattle.node_ways.proofs.Throwing.{of_method, site_added}
use Rattle.node_ways.proofs.landings.method_landings.Goals as goal

pub site-requires : goal.site-requires
site-requires c =
    let sites = c.sites_thrown_by-site-items.result.now in
    let k = c.loop-site.site-index in
    let site : SiteNo = get_or sites k (record { 0 = 0 }) in
    c.sites_thrown_by-site-items.ensures.within site (contains_at sites k site (slice_get-get_or sites k (record { 0 = 0 }) c.loop-site-test.true))

pub loop-site-preserved : goal.loop-site-preserved
loop-site-preserved c =
    let g = c.args.ground.now in
    let n = c.args.node.now in
    let sites = c.sites_thrown_by-site-items.result.now in
    let k = c.loop-site.site-index in
    let site : SiteNo = get_or sites k (record { 0 = 0 }) in
    let b = c.loop-site.landings.items in
    let new = c.add_landing.new.landings.items in
    let one = subst (λ (p : Program). AreAdded (LandsAt p n c.as_slice-class.result.now) b new) c.program.ensures c.in_ok-add_landing.ensures in
    record {
      added = added_more (SiteLands g n) sites k site (slice_get-get_or sites k (record { 0 = 0 }) c.loop-site-test.true) [] b new c.loop-site.invariant.added
          (site_added g n site c.site.result.now c.site.ensures c.as_slice-class.result.now c.as_slice-class.ensures b new one);
    }

pub returns : goal.returns
returns c =
    let g = c.args.ground.now in
    let n = c.args.node.now in
    let sites = c.sites_thrown_by-site-items.result.now in
    let landings = c.loop-site.landings.items in
    of_method g n c.args.method sites landings c.sites_thrown_by-site-items.ensures.sites
    (added_all (SiteLands g n) sites c.loop-site.site-index c.loop-site-test.false [] landings c.loop-site.invariant.added)
