use Rattle.std.proofs.Common.{◌≡◌, ◌<◌, ◌^◌, drop}
use Rattle.line_guesses.specs.Guess.{read_on}
use Rattle.line_guesses.proofs.numbers.value_of.Given as goal

-- the value so far, read on, is that of all; so many digits make no more
abbrev pub invariant-loop-digit : goal.invariant-loop-digit
invariant-loop-digit l = record {
  same : read_on l.value (drop l.digit-index l.digits) ≡ read_on 0 l.digits;
  small : l.value < 10 ^ l.digit-index;
}
