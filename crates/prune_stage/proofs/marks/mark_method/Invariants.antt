use Rattle.prune_stage.specs.Marks.{AreMarked, NodeMarks, OfOneBelow}
use Rattle.prune_stage.proofs.marks.mark_method.Given as goal

abbrev pub invariant-loop-node : goal.invariant-loop-node
invariant-loop-node g l = record {
  marked : AreMarked (OfOneBelow (NodeMarks l.automaton l.ground (g.M.Marking.stands l.marking) l.method) l.node) l.initial.sets l.sets;
}
