use Rattle.std.proofs.lemmas.List.Filters.{dedup_is}
use Rattle.report_sites.proofs.SiteOrder.{have_same, in_order, same_sites}
use Rattle.report_sites.proofs.order.in_order.Goals as goal

pub returns-clause-same : goal.returns-clause-same
returns-clause-same c =
    have_same c.args.sites.items c.sort_unstable.new.self.items c.dedup.new.self.items c.sort_unstable.ensures.permutation
    c.sort_unstable.ensures.sorted (dedup_is same_sites _ _ c.dedup.ensures.filtered)

pub returns-clause-order : goal.returns-clause-order
returns-clause-order c =
    in_order c.args.sites.items c.sort_unstable.new.self.items c.dedup.new.self.items c.sort_unstable.ensures.permutation
    c.sort_unstable.ensures.sorted (dedup_is same_sites _ _ c.dedup.ensures.filtered)
