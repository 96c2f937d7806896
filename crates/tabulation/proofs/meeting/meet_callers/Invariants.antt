use Rattle.std.proofs.Common.{ℕ, ◌-◌, length}
use Rattle.chained_lists.specs.Entries.{IsWalked, passed}
use Rattle.tabulation_tables.specs.Lists.{lists_of}
use Rattle.tabulation_tables.specs.Steps.{CallsStay}
use Rattle.tabulation.specs.Kept.{HasMetAll, IsStep}
use Rattle.tabulation.proofs.meeting.meet_callers.Given as goal

abbrev pub invariant-loop-place : goal.invariant-loop-place
invariant-loop-place l = record {
  step : IsStep l.work.question.now (lists_of l.initial.tables) (lists_of l.tables);
  stay : CallsStay (lists_of l.initial.tables) (lists_of l.tables);
  walked : IsWalked (λ (n : ℕ). HasMetAll l.work.question.now (lists_of l.tables) l.begin n l.exit.0) l.tables.callers l.begin l.last;
}

abbrev pub decreases-loop-place : goal.decreases-loop-place
decreases-loop-place l = length l.tables.callers - passed l.last
