use Rattle.std.proofs.Common.{take}
use Rattle.std.specs.List.{All}
use Rattle.edge_steps.specs.declared.conclusions.EnteredWith.{EnteredWith}
use Rattle.edge_steps.specs.Steps.{begun}
use Rattle.tabulation_tables.specs.Lists.{IsBegun, lists_of}
use Rattle.tabulation.specs.Kept.{IsStep}
use Rattle.tabulation.proofs.beginning.begin_all.Given as goal

abbrev pub invariant-loop-one : goal.invariant-loop-one
invariant-loop-one l = record {
  step : IsStep l.work.question.now (lists_of l.initial.tables) (lists_of l.tables);
  begun : All (λ (b : EnteredWith). IsBegun (lists_of l.tables) l.caller.end (begun b)) (take l.one-index l.entered);
}
