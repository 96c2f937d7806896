use Rattle.std.proofs.Common.{◌≡◌, ℕ, ◌<◌, length}
use Rattle.program_index.specs.Supertypes.{IsAbove}
use Rattle.program_index.proofs.order.least_on_cycle.Given as goal

-- no class so far is above itself
abbrev pub invariant-loop-class : goal.invariant-loop-class
invariant-loop-class l = record {
  size : l.walked.size ≡ length l.parents;
  none : (d : ℕ) → d < l.class → IsAbove l.parents d d → ⊥;
}
