use Rattle.edge_derivations.specs.Marks.{AreFollowed}
use Rattle.edge_derivations.proofs.derivation.needed_before.Given as goal

abbrev pub invariant-loop-place : goal.invariant-loop-place
invariant-loop-place l = record { followed : AreFollowed l.found.reasons l.last l.place l.needed.items }
