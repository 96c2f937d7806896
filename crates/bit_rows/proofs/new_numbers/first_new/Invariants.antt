use Rattle.std.proofs.Common.{◌≡◌, ℕ, ◌<◌, ◌≤◌}
use Rattle.bit_rows.specs.SetWords.{new_word}
use Rattle.bit_rows.proofs.new_numbers.first_new.Given as goal

-- The words so far have no new bit.
abbrev pub invariant-loop-place : goal.invariant-loop-place
invariant-loop-place l = record { none : (k : ℕ) → l.low ≤ k → k < l.place → new_word l.held l.offered l.mask k ≡ 0 }
