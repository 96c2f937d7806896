use Rattle.std.proofs.Common.{◌≡◌, ◌+◌, length, take}
use Rattle.certificates.specs.Texts.{most_bytes, text}
use Rattle.certificates.proofs.writing.fits.Given as goal

-- what the lines so far take, and what is left, are the limit
abbrev pub invariant-loop-line : goal.invariant-loop-line
invariant-loop-line l = record { sum : length (text (take l.line-index l.lines)) + l.left ≡ most_bytes }
