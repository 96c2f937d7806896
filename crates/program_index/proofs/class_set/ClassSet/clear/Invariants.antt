use Rattle.std.proofs.Common.{◌≡◌, length}
use Rattle.program_index.proofs.class_set.ClassSet.clear.Given as goal

abbrev pub invariant-loop : goal.invariant-loop
invariant-loop l = l.self.size ≡ l.initial.self.size

abbrev pub decreases-loop : goal.decreases-loop
decreases-loop l = length l.self.items
