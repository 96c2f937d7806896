use Rattle.std.proofs.Common.{take}
use Rattle.std.specs.List.{All}
use Rattle.tabulation_tables.specs.Lists.{lists_of}
use Rattle.tabulation_tables.specs.Steps.{CallsStay}
use Rattle.tabulation.specs.Kept.{IsStep, LeadsToConclusion}
use Rattle.tabulation.proofs.leading.lead_to_all.Given as goal

abbrev pub invariant-loop-conclusion : goal.invariant-loop-conclusion
invariant-loop-conclusion l = record {
  step : IsStep l.work.question.now (lists_of l.initial.tables) (lists_of l.tables);
  stay : CallsStay (lists_of l.initial.tables) (lists_of l.tables);
  lead : All (LeadsToConclusion (lists_of l.tables) l.premise.end l.premise.method) (take l.conclusion-index l.conclusions);
}
