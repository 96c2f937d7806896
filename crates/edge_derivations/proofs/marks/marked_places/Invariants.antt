use Rattle.edge_derivations.specs.Marks.{AreListed, IsMarked}
use Rattle.edge_derivations.proofs.marks.marked_places.Given as goal

abbrev pub invariant-loop-place : goal.invariant-loop-place
invariant-loop-place l = record { listed : AreListed (IsMarked l.marks) l.place l.places.items }
