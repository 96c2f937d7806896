use Rattle.std.proofs.lemmas.List.Elements.{all_zip_more}
use Rattle.program_index.specs.AboveLists.{IsSortedCopy}
use Rattle.program_index.proofs.above.sorted_lists.Goals as goal

pub loop-list-preserved : goal.loop-list-preserved
loop-list-preserved c =
    rw c.in_ok-push.ensures.items
    (all_zip_more IsSortedCopy c.args.lists.now c.loop-list.sorted.items c.loop-list.list-index c.list-item.result c.in_ok-sorted_copy.field-0 c.loop-list-test.true c.list-item.is
    c.loop-list.invariant c.in_ok-sorted_copy.ensures)
