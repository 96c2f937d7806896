use Rattle.std.proofs.Common.{◌≡◌, ◌<◌, ◌+◌, arith}
use Rattle.call_graph.proofs.RowSites.{no_sites, site_added, sites_added}
use Rattle.call_graph.proofs.rows.add_sites.Goals as goal

pub loop-number-init : goal.loop-number-init
loop-number-init c = record { added = no_sites c.args.set.now c.args.place c.args.sites.now.groups.items }

pub loop-number-preserved : goal.loop-number-preserved
loop-number-preserved c = record {
  added = site_added c.args.set.now c.args.place c.loop-number.low c.in-Some.number c.args.sites.now.groups.items c.loop-number.sites.groups.items c.add_at.new.self.groups.items c.in-Some.ensures c.loop-number.invariant.added
      c.in_ok-add_at.ensures.put;
}

pub returns-then-number : goal.returns-then-number
returns-then-number c =
    let set = c.args.set.now in
    let number = c.in-Some.number in
    sites_added set c.args.place (number + 1) c.args.sites.now.groups.items c.add_at.new.self.groups.items (λ n past is. (let l = c.well_formed-2.ensures n is in let most = c.if-number.true in omega arith))
    (site_added set c.args.place c.loop-number.low number c.args.sites.now.groups.items c.loop-number.sites.groups.items c.add_at.new.self.groups.items c.in-Some.ensures c.loop-number.invariant.added c.in_ok-add_at.ensures.put)

pub returns : goal.returns
returns c = sites_added c.args.set.now c.args.place c.loop-number.low c.args.sites.now.groups.items c.loop-number.sites.groups.items (λ n past is. c.in_default.ensures.none n past is) c.loop-number.invariant.added
