use Rattle.std.proofs.Common.{◌≤◌, ◌-◌, ℕ, length}
use Rattle.prune_stage.specs.Marks.{IsMarked}
use Rattle.prune_stage.proofs.answers.no_events.Given as goal

abbrev pub invariant-loop-sets : goal.invariant-loop-sets
invariant-loop-sets l = record {
  count : length l.sets.items ≤ l.count;
  none : (place event : ℕ) → IsMarked l.sets.items place event → ⊥;
}

abbrev pub decreases-loop-sets : goal.decreases-loop-sets
decreases-loop-sets l = l.count - length l.sets.items
