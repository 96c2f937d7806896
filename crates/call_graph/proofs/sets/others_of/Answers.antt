use Rattle.std.proofs.Common.{List, sym, subst, take}
use Rattle.std.proofs.lemmas.List.{take_more}
use Rattle.points_to_numbers.specs.declared.item.Item.{Item}
use Rattle.call_graph.specs.Sets.{AreSetsOf}
use Rattle.call_graph.proofs.sets.others_of.Goals as goal

pub loop-item-preserved : goal.loop-item-preserved
loop-item-preserved c =
    let items = c.args.items.now in
    let k = c.loop-item.item-index in
    record {
      sets = subst (λ (front : List Item). AreSetsOf c.args.tables.now front c.add_item.new.sets) (sym (take_more items k _ c.loop-item-test.true))
          (c.in_ok-add_item.ensures.goes (take k items) c.loop-item.invariant.sets);
    }
