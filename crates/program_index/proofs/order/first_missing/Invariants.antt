use Rattle.std.proofs.Common.{take}
use Rattle.std.specs.Option.{option_to_list}
use Rattle.program_index.specs.Sorting.{AreIn}
use Rattle.program_index.proofs.order.first_missing.Given as goal

-- the superclass is placed, and the superinterfaces so far
abbrev pub invariant-loop-place : goal.invariant-loop-place
invariant-loop-place l = record {
  super_class : AreIn l.order.items (option_to_list l.parents.super_class);
  interfaces : AreIn l.order.items (take l.place l.parents.interfaces.items);
}
