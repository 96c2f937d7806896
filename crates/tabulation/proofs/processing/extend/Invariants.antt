use Rattle.std.proofs.Common.{ℕ, ◌-◌, length}
use Rattle.chained_lists.specs.Entries.{IsWalked, passed}
use Rattle.tabulation_tables.specs.Lists.{HasEdge, lists_of}
use Rattle.tabulation_tables.specs.Steps.{NotesStay}
use Rattle.tabulation.specs.Kept.{IsStep}
use Rattle.tabulation.proofs.processing.extend.Given as goal

abbrev pub invariant-loop-place : goal.invariant-loop-place
invariant-loop-place l = record {
  step : IsStep l.work.question.now (lists_of l.initial.tables) (lists_of l.tables);
  stay : NotesStay (lists_of l.initial.tables) (lists_of l.tables);
  walked : IsWalked (λ (n : ℕ). HasEdge (lists_of l.tables) l.edge.begin n) l.tables.leads l.edge.end l.last;
}

abbrev pub decreases-loop-place : goal.decreases-loop-place
decreases-loop-place l = length l.tables.leads - passed l.last
