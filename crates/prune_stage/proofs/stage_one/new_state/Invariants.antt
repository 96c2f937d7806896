use Rattle.std.proofs.Common.{◌≡◌, ℕ, ◌<◌, Some, true, slice_get}
use Rattle.jvm_model.specs.declared.automaton.Event.{Event}
use Rattle.prune_stage.specs.Reaching.{AddsNothing}
use Rattle.prune_stage.proofs.stage_one.new_state.Given as goal

abbrev pub invariant-loop-place : goal.invariant-loop-place
invariant-loop-place l = (place : ℕ) → place < l.place → (e : Event) → slice_get l.events place ≡ Some e → slice_get l.occurs place ≡ Some true → AddsNothing l.reached e
