use Rattle.std.proofs.Common.{◌↔◌, Bool, length, take}
use Rattle.std.specs.Prelude.{IsTrue}
use Rattle.std.specs.List.{AllZip}
use Rattle.prune_stage.specs.StageOne.{IsSafe, picked}
use Rattle.prune_stage.specs.declared.event_set.EventSet.{EventSet}
use Rattle.prune_stage.proofs.answers.answers_of.Given as goal

abbrev pub invariant-loop-set : goal.invariant-loop-set
invariant-loop-set l = record {
  answered : AllZip (λ (set : EventSet) (answer : Bool). IsTrue answer ↔ IsSafe l.automaton
      (picked (take (length l.automaton.events) set.occurs) l.automaton.events)) (take l.set-index l.sets) l.answers.items;
}
