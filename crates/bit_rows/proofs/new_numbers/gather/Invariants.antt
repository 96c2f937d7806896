use Rattle.std.proofs.Common.{◌≡◌, ℕ, ◌+◌, ◌<◌, length, get_or}
use Rattle.bit_rows.specs.SetWords.{new_word}
use Rattle.bit_rows.proofs.new_numbers.gather.Given as goal

-- The words so far are gathered.
abbrev pub invariant-loop-place : goal.invariant-loop-place
invariant-loop-place l = record {
  count : l.low + length l.words.items ≡ l.place;
  words : (k : ℕ) → l.low + k < l.place → get_or l.words.items k 0 ≡ new_word l.held l.offered l.mask (l.low + k);
}
