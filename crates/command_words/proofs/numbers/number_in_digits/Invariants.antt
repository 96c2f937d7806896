use Rattle.std.proofs.Common.{◌≡◌, true, take}
use Rattle.std.specs.List.{list_all}
use Rattle.command_words.specs.Requests.{is_digit, number_of}
use Rattle.command_words.proofs.numbers.number_in_digits.Given as goal

abbrev pub invariant-loop-byte : goal.invariant-loop-byte
invariant-loop-byte l = record {
  digits : list_all is_digit (take l.byte-index l.text) ≡ true;
  number : l.number ≡ number_of (take l.byte-index l.text);
}
