use Rattle.std.proofs.Common.{◌≤◌, ◌∙◌, length, arith}
use Rattle.slot_names.proofs.ListPlaces.{stands_below}
use Rattle.call_graph.proofs.ReadSites.{all_read, none_read, one_read}
use Rattle.call_graph.proofs.sites.sites_of.Goals as goal

pub loop-number-init : goal.loop-number-init
loop-number-init c = record { read = c.new-sites.ensures.items ∙ none_read c.args.tables.now.sites }

pub site_at-requires : goal.site_at-requires
site_at-requires c = stands_below c.args.tables.now.sites c.loop-number.number (omega arith)

pub loop-number-preserved : goal.loop-number-preserved
loop-number-preserved c = record {
  read = one_read c.args.tables.now.sites c.loop-number.sites.items c.push.new.self.items c.loop-number.number c.in_ok-site.site c.loop-number.invariant.read
      c.in_ok-site.ensures c.in_ok-push.ensures.items;
}

pub returns : goal.returns
returns c =
    let past : length c.args.tables.now.sites ≤ c.loop-number.number = omega arith in
    all_read c.args.tables.now.sites c.loop-number.sites.items c.loop-number.number past c.loop-number.invariant.read
