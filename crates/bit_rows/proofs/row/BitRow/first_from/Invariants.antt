use Rattle.std.proofs.Common.{◌≡◌, ℕ, ◌+◌, ◌*◌, ◌<◌, ◌≤◌, true}
use Rattle.bit_rows.specs.Words.{row_has}
use Rattle.bit_rows.proofs.row.BitRow.first_from.Given as goal

-- There is no number in the words so far.
abbrev pub invariant-loop-k : goal.invariant-loop-k
invariant-loop-k l = record {
  none : (n : ℕ) → 64 * (l.self.first + l.index) ≤ n → n < 64 * (l.self.first + l.k) → row_has l.self.first l.self.words.items n ≡ true → ⊥;
}
