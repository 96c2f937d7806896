use Rattle.std.proofs.Common.{◌<◌, ◌≤◌, ◌-◌, ℕ, length}
use Rattle.tabulation_tables.specs.Lists.{IsProcessed, lists_of}
use Rattle.tabulation.specs.Kept.{HasStart, IsKept}
use Rattle.tabulation.proofs.work_list.process_all.Given as goal

abbrev pub invariant-loop-place : goal.invariant-loop-place
invariant-loop-place l = record {
  kept : IsKept l.work.question.now (lists_of l.tables);
  start : HasStart (lists_of l.tables);
  within : l.place ≤ length l.tables.edges;
  processed : (k : ℕ) → k < l.place → IsProcessed (lists_of l.tables) k;
}

abbrev pub decreases-loop-place : goal.decreases-loop-place
decreases-loop-place l = l.work.question.now.limit - l.place
