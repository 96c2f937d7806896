use Rattle.std.proofs.Common.{length, arith, ap}
use Rattle.program_index.specs.ClassSets.{Classes}
use Rattle.program_index.proofs.ClassLists.{at_most_size}
use Rattle.program_index.proofs.class_set.ClassSet.len.Goals as goal

pub returns-clause-bound : goal.returns-clause-bound
returns-clause-bound c =
    let bound = at_most_size c.self.inside.items.items (length c.self.inside.marks.items) c.self.invariant.below c.self.invariant.distinct in
    let size = ap (λ (s : Classes). s.size) c.self.view_is in
    omega (arith, c.len.ensures)
