use Rattle.std.proofs.Common.{◌≡◌, ℕ, take, false}
use Rattle.std.specs.List.{list_any}
use Rattle.access_paths.specs.declared.root.Root.TheVariants.{Slot}
use Rattle.access_paths.specs.Paths.{bare, has_path}
use Rattle.stage_flow.proofs.tuples.is_put_away.Given as goal

abbrev pub invariant-loop-slot : goal.invariant-loop-slot
invariant-loop-slot k = list_any (λ (z : ℕ). has_path k.set (bare (Slot z))) (take k.slot-index k.kept) ≡ false
