use Rattle.std.proofs.Common.{take, length}
use Rattle.std.specs.List.{All}
use Rattle.program_index.specs.declared.order.Waiter.{Waiter}
use Rattle.program_index.specs.Sorting.{IsSorting, IsHeld, GoesOn}
use Rattle.program_index.proofs.order.settle_released.Given as goal

-- those that were released so far are placed, or wait for another class
abbrev pub invariant-loop-waiter : goal.invariant-loop-waiter
invariant-loop-waiter l = record {
  sorting : IsSorting l.parents l.order l.waiting.items;
  goes_on : GoesOn l.initial.order.items l.initial.waiting.items l.order.items l.waiting.items;
  held : All (λ (w : Waiter). IsHeld l.order.items l.waiting.items (length l.initial.order.items) w.class) (take l.waiter-index l.released);
}
