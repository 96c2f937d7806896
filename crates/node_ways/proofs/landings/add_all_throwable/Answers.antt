use Rattle.std.proofs.Common.{get_or}
use Rattle.std.proofs.lemmas.Option.{slice_get-get_or}
use Rattle.list_laws.proofs.Places.{contains_at}
use Rattle.jvm_model.specs.declared.number.SiteNo.{SiteNo}
use Rattle.ground.proofs.Adding.{added_all, added_more}
use Rattle.node_ways.specs.Parts.{ThrowableLands}
use Rattle.node_ways.proofs.landings.add_all_throwable.Goals as goal

pub add_throwable-requires : goal.add_throwable-requires
add_throwable-requires c =
    let sites = c.args.sites.now in
    let k = c.loop-site.site-index in
    let site : SiteNo = get_or sites k (record { 0 = 0 }) in
    c.requires site (contains_at sites k site (slice_get-get_or sites k (record { 0 = 0 }) c.loop-site-test.true))

pub loop-site-preserved : goal.loop-site-preserved
loop-site-preserved c =
    let sites = c.args.sites.now in
    let k = c.loop-site.site-index in
    let site : SiteNo = get_or sites k (record { 0 = 0 }) in
    record {
      added = added_more (ThrowableLands c.args.ground.now c.args.node.now) sites k site (slice_get-get_or sites k (record { 0 = 0 }) c.loop-site-test.true) c.args.landings.now.items c.loop-site.landings.items
          c.add_throwable.new.landings.items c.loop-site.invariant.added c.in_ok-add_throwable.ensures;
    }

pub returns : goal.returns
returns c =
    added_all (ThrowableLands c.args.ground.now c.args.node.now) c.args.sites.now c.loop-site.site-index c.loop-site-test.false c.args.landings.now.items c.loop-site.landings.items c.loop-site.invariant.added
