use Rattle.std.proofs.Common.{◌≡◌, ℕ, ◌||◌, nat_eq, drop}
use Rattle.std.specs.BTreeSet.{contains}
use Rattle.std.specs.List.{list_any}
use Rattle.std.specs.Ordering.{nat_cmp}
use Rattle.flow_graph.proofs.flow.set_of.Given as goal

abbrev pub invariant-loop-offset : goal.invariant-loop-offset
invariant-loop-offset l =
    (offset : ℕ) → (contains nat_cmp l.set offset || list_any (λ (m : ℕ). nat_eq m offset) (drop l.offset-index l.offsets)) ≡ list_any (λ (m : ℕ). nat_eq m offset) l.offsets
