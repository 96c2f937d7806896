use Rattle.std.proofs.Common.{List, ℕ, subst}
use Rattle.program_index.specs.ClassSets.{AreMarked}
use Rattle.program_index.proofs.Marks.{marked_pop}
use Rattle.program_index.proofs.class_set.ClassSet.pop.Goals as goal

pub invariant_of-self-2 : goal.invariant_of-self-2
invariant_of-self-2 c =
    marked_pop c.self.inside.marks.items c.pop.new.self.items c.in_ok-class.class
    (subst (λ (items : List ℕ). AreMarked c.self.inside.marks.items items) c.in_ok-class.ensures.items c.self.invariant)
