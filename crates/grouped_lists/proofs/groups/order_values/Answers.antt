use Rattle.std.proofs.lemmas.List.Filters.{dedup_is}
use Rattle.grouped_lists.proofs.OrderedValues.{put_in_order}
use Rattle.grouped_lists.proofs.groups.order_values.Goals as goal

pub returns : goal.returns
returns g c =
    put_in_order g.V.PartialEq.eq g.V.Ord.cmp g.met.V.Ord.total g.met.V.Ord.matches_eq g.met.V.Eq.laws c.args.values.now.items c.sort_unstable.new.self.items
    c.dedup.new.self.items c.sort_unstable.ensures.permutation c.sort_unstable.ensures.sorted (dedup_is g.V.PartialEq.eq _ _ c.dedup.ensures.filtered)
