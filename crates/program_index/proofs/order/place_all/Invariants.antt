use Rattle.std.proofs.Common.{◌≤◌, ◌-◌, length}
use Rattle.program_index.specs.Sorting.{IsSorting, AreHeld}
use Rattle.program_index.proofs.order.place_all.Given as goal

-- a class that is not placed waits for one whose turn is still to come
abbrev pub invariant-loop-done : goal.invariant-loop-done
invariant-loop-done l = record {
  sorting : IsSorting l.parents l.order l.waiting.items;
  held : AreHeld l.order.items l.waiting.items l.done (length l.parents);
  within : l.done ≤ length l.order.items;
}

abbrev pub decreases-loop-done : goal.decreases-loop-done
decreases-loop-done l = length l.parents - l.done
