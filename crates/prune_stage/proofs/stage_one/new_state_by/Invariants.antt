use Rattle.std.proofs.Common.{◌≡◌, ℕ, ◌<◌, Some, true, slice_get}
use Rattle.prune_stage.proofs.stage_one.new_state_by.Given as goal

abbrev pub invariant-loop-from : goal.invariant-loop-from
invariant-loop-from l = (from state : ℕ) → from < l.from → slice_get l.reached from ≡ Some true → slice_get l.event.next from ≡ Some state → slice_get l.reached state ≡ Some true
