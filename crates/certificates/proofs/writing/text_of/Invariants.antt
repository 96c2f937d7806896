use Rattle.std.proofs.Common.{◌≡◌, take}
use Rattle.certificates.specs.Texts.{text}
use Rattle.certificates.proofs.writing.text_of.Given as goal

-- the lines so far are written
abbrev pub invariant-loop-line : goal.invariant-loop-line
invariant-loop-line l = l.bytes.items ≡ text (take l.line-index l.lines)
