use Rattle.std.proofs.Common.{◌≡◌, take}
use Rattle.typestate.specs.Sentences.{said}
use Rattle.typestate.proofs.escaped.escaped.Given as goal

abbrev pub invariant-loop-byte : goal.invariant-loop-byte
invariant-loop-byte l = l.text.items ≡ said (take l.byte-index l.sentence)
