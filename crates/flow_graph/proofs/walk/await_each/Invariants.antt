use Rattle.std.proofs.Common.{◌≡◌, ℕ, ◌||◌, drop}
use Rattle.std.specs.BTreeSet.{contains}
use Rattle.std.specs.Ordering.{nat_cmp}
use Rattle.flow_graph.specs.Walking.{stands_at}
use Rattle.flow_graph.proofs.walk.await_each.Given as goal

abbrev pub invariant-loop-offset : goal.invariant-loop-offset
invariant-loop-offset l =
    (number : ℕ)
    → (contains nat_cmp l.awaited number || stands_at l.instructions (drop l.offset-index l.offsets) number)
    ≡ (contains nat_cmp l.initial.awaited number || stands_at l.instructions l.offsets number)
