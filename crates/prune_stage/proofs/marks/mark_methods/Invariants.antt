use Rattle.prune_stage.specs.Marks.{AreMarked, MethodMarks, OfOneBelow}
use Rattle.prune_stage.proofs.marks.mark_methods.Given as goal

abbrev pub invariant-loop-method : goal.invariant-loop-method
invariant-loop-method g l = record {
  marked : AreMarked (OfOneBelow (MethodMarks l.automaton l.ground (g.M.Marking.stands l.marking)) l.method) l.initial.sets l.sets;
}
