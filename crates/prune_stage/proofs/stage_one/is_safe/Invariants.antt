use Rattle.std.proofs.Common.{◌≡◌, ℕ, Some, true, length, slice_get}
use Rattle.prune_stage.specs.StageOne.{picked}
use Rattle.prune_stage.proofs.Reach.{IsReached, unreached}
use Rattle.prune_stage.proofs.stage_one.is_safe.Given as goal

abbrev pub invariant-loop-state : goal.invariant-loop-state
invariant-loop-state l = record {
  size : length l.reached ≡ 32;
  initial : slice_get l.reached l.automaton.initial ≡ Some true;
  found : (q : ℕ) → slice_get l.reached q ≡ Some true → IsReached l.automaton (picked l.occurs l.automaton.events) q;
}

abbrev pub decreases-loop-state : goal.decreases-loop-state
decreases-loop-state l = unreached l.reached
