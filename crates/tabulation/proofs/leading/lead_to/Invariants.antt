use Rattle.std.proofs.Common.{ℕ, ◌-◌}
use Rattle.chained_lists.specs.Entries.{IsWalked, passed}
use Rattle.tabulation_tables.specs.Lists.{HasEdge, lists_of}
use Rattle.tabulation_tables.specs.Steps.{NotesStay}
use Rattle.tabulation.specs.Kept.{IsStep}
use Rattle.tabulation.proofs.leading.lead_to.Given as goal

abbrev pub invariant-loop-place : goal.invariant-loop-place
invariant-loop-place l = record {
  step : IsStep l.work.question.now (lists_of l.initial.tables) (lists_of l.tables);
  stay : NotesStay (lists_of l.initial.tables) (lists_of l.tables);
  walked : IsWalked (λ (n : ℕ). HasEdge (lists_of l.tables) n l.to) l.tables.begins l.from l.last;
}

abbrev pub decreases-loop-place : goal.decreases-loop-place
decreases-loop-place l = l.work.question.now.limit - passed l.last
