use Rattle.std.proofs.Common.{◌≡◌, ◌+◌, ◌*◌}
use Rattle.bit_rows.specs.Words.{row_has}
use Rattle.bit_rows.proofs.Counting.{count_below}
use Rattle.bit_rows.proofs.row.BitRow.count.Given as goal

-- The numbers in the words so far are counted.
abbrev pub invariant-loop-word : goal.invariant-loop-word
invariant-loop-word l = record {
  counted : l.count ≡ count_below (row_has l.self.first l.self.words.items) (64 * (l.self.first + l.word-index));
}
