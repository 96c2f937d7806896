use Rattle.std.proofs.Common.{◌≡◌, ℕ, length, take}
use Rattle.std.specs.Prelude.{bit_or, slice_index}
use Rattle.bit_rows.specs.Words.{word_at}
use Rattle.bit_rows.proofs.words.add_bits.Given as goal

-- The bits of the words so far are added.
abbrev pub invariant-loop-k : goal.invariant-loop-k
invariant-loop-k l = record {
  count : length l.words.items ≡ length l.initial.words.items;
  added : (place : ℕ) → slice_index l.words.items place ≡ bit_or (slice_index l.initial.words.items place) (word_at l.start (take l.k l.more) place);
}
