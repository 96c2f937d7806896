use Rattle.std.proofs.Common.{List, subst}
use Rattle.std.specs.List.{Contains}
use Rattle.points_to_numbers.specs.declared.item.Item.{Item}
use Rattle.call_graph.specs.Sets.{AreSetsOf}
use Rattle.call_graph.proofs.QueueSets.{behind, queue_sets}
use Rattle.call_graph.proofs.sets.sets_of.Goals as goal

pub others_of-requires : goal.others_of-requires
others_of-requires c = λ item there. c.requires item (behind c.args.tables.now c.args.queue.now item (subst (λ (items : List Item). Contains items item) c.as_slice.ensures.keys there))

pub returns : goal.returns
returns c =
    let n = c.args.tables.now in
    let sets = subst (λ (items : List Item). AreSetsOf n items c.in_ok-sets.sets) c.as_slice.ensures.keys c.in_ok-sets.ensures in
    queue_sets n c.args.queue.now c.in_ok-sets.sets c.add_rows.new.sites sets c.in_ok-add_rows.ensures
