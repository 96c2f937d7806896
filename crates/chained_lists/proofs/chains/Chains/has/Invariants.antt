use Rattle.std.proofs.Common.{◌≡◌, ℕ, ◌-◌, length}
use Rattle.chained_lists.specs.Entries.{IsWalked, passed}
use Rattle.chained_lists.proofs.chains.Chains.has.Given as goal

abbrev pub invariant-loop-place : goal.invariant-loop-place
invariant-loop-place l = record { walked : IsWalked (λ (v : ℕ). v ≡ l.value → ⊥) l.self l.number l.last }

abbrev pub decreases-loop-place : goal.decreases-loop-place
decreases-loop-place l = length l.self - passed l.last
