use Rattle.std.proofs.Common.{ℕ, ◌<◌, take}
use Rattle.std.specs.List.{All}
use Rattle.unit_tests.proofs.linked.order.is_in_range.Given as goal

-- the superinterfaces so far are in range
abbrev pub invariant-loop-interface : goal.invariant-loop-interface
invariant-loop-interface l = All (λ (y : ℕ). y < l.count) (take l.interface-index l.interface-items)
