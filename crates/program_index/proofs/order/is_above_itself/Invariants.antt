use Rattle.std.proofs.Common.{◌≡◌, ◌≤◌, ◌-◌, length}
use Rattle.program_index.specs.Walks.{IsWalk}
use Rattle.program_index.proofs.order.is_above_itself.Given as goal

-- what was walked is above the class, and has what is directly above the class and above its own first classes
abbrev pub invariant-loop-done : goal.invariant-loop-done
invariant-loop-done l = record {
  size : l.walked.size ≡ length l.parents;
  walk : IsWalk l.parents l.class l.walked.items l.done;
  within : l.done ≤ length l.walked.items;
}

abbrev pub decreases-loop-done : goal.decreases-loop-done
decreases-loop-done l = length l.parents - l.done
