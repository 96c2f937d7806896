use Rattle.std.proofs.Common.{◌≡◌, ℕ, ◌+◌, ◌-◌, length}
use Rattle.chained_lists.specs.Chained.{head_at}
use Rattle.chained_lists.proofs.links.grow.Given as goal

abbrev pub invariant-loop-heads : goal.invariant-loop-heads
invariant-loop-heads l = record { same : (q : ℕ) → head_at l.heads.items q ≡ head_at l.initial.heads.items q }

abbrev pub decreases-loop-heads : goal.decreases-loop-heads
decreases-loop-heads l = l.number + 1 - length l.heads.items
