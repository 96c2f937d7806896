use Rattle.program_index.specs.Sorting.{IsSorting, AreHeld}
use Rattle.program_index.proofs.order.settle_each.Given as goal

-- each class so far is placed, or waits
abbrev pub invariant-loop-class : goal.invariant-loop-class
invariant-loop-class l = record {
  sorting : IsSorting l.parents l.order l.waiting.items;
  held : AreHeld l.order.items l.waiting.items 0 l.class;
}
