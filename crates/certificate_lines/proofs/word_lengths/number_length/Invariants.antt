use Rattle.std.proofs.Common.{◌≡◌, ◌+◌, length, decimal}
use Rattle.certificate_lines.proofs.word_lengths.number_length.Given as goal

-- the digits that were counted, and those that are left, are all
abbrev pub invariant-loop-rest : goal.invariant-loop-rest
invariant-loop-rest l = l.long + length (decimal l.rest) ≡ length (decimal l.number) + 1

abbrev pub decreases-loop-rest : goal.decreases-loop-rest
decreases-loop-rest l = l.rest
