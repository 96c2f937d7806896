use Rattle.std.proofs.Common.{◌≡◌, ◌+◌, drop}
use Rattle.line_guesses.specs.Guess.{digit_count}
use Rattle.line_guesses.proofs.numbers.digit_count.Given as goal

-- what was counted, and what is left, are all; and all bytes so far were counted
abbrev pub invariant-loop-byte : goal.invariant-loop-byte
invariant-loop-byte l = record {
  count : l.count ≡ l.byte-index;
  same : l.count + digit_count (drop l.byte-index l.bytes) ≡ digit_count l.bytes;
}
