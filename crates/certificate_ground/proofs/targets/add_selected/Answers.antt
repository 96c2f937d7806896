use Rattle.std.proofs.Common.{get_or}
use Rattle.std.proofs.lemmas.Option.{slice_get-get_or}
use Rattle.list_laws.proofs.Places.{contains_at}
use Rattle.jvm_model.specs.declared.number.SiteNo.{SiteNo}
use Rattle.certificate_ground.specs.Targets.{IsSelectedAt}
use Rattle.certificate_ground.proofs.CallTargets.{some_selected}
use Rattle.certificate_ground.proofs.PairTables.{pairs_all, pairs_more, pairs_start}
use Rattle.certificate_ground.proofs.targets.add_selected.Goals as goal

pub loop-site-init : goal.loop-site-init
loop-site-init c = record {
  added = pairs_start (λ (n : SiteNo) call t. IsSelectedAt c.args.known.now.program.now c.args.known.now.sites.now c.args.call.now c.args.at n call t) c.args.receivers.now
      c.args.targets.now.calls.keys c.args.targets.now.targets.groups.items;
}

pub add_one-requires-clause-within : goal.add_one-requires-clause-within
add_one-requires-clause-within c =
    let receivers = c.args.receivers.now in
    let k = c.loop-site.site-index in
    let past : SiteNo = record { 0 = 0 } in
    c.requires.within (get_or receivers k past) (contains_at receivers k (get_or receivers k past) (slice_get-get_or receivers k past c.loop-site-test.true))

pub loop-site-preserved : goal.loop-site-preserved
loop-site-preserved c =
    let receivers = c.args.receivers.now in
    let k = c.loop-site.site-index in
    let past : SiteNo = record { 0 = 0 } in
    let old = c.args.targets.now in
    let now = c.loop-site.targets in
    let new = c.add_one.new.targets in
    record {
      added = pairs_more (λ (n : SiteNo) call t. IsSelectedAt c.args.known.now.program.now c.args.known.now.sites.now c.args.call.now c.args.at n call t) receivers k
          (get_or receivers k past) (slice_get-get_or receivers k past c.loop-site-test.true) old.calls.keys old.targets.groups.items now.calls.keys now.targets.groups.items
          new.calls.keys new.targets.groups.items c.loop-site.invariant.added c.in_ok-add_one.ensures;
    }

pub returns : goal.returns
returns c =
    let p = c.args.known.now.program.now in
    let sites = c.args.known.now.sites.now in
    let old = c.args.targets.now in
    let now = c.loop-site.targets in
    some_selected p sites c.args.call.now c.args.at c.args.receivers.now old.calls.keys old.targets.groups.items now.calls.keys now.targets.groups.items
    (pairs_all (λ (n : SiteNo) call t. IsSelectedAt p sites c.args.call.now c.args.at n call t) c.args.receivers.now c.loop-site.site-index c.loop-site-test.false old.calls.keys
    old.targets.groups.items now.calls.keys now.targets.groups.items c.loop-site.invariant.added)
