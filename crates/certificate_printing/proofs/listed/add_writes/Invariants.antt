use Rattle.std.proofs.Common.{take}
use Rattle.ground.specs.Added.{AreAdded, OfOne}
use Rattle.certificate_printing.specs.Collected.{IsWriteLine}
use Rattle.certificate_printing.proofs.listed.add_writes.Given as goal

abbrev pub invariant-loop-write : goal.invariant-loop-write
invariant-loop-write l = record { added : AreAdded (OfOne IsWriteLine (take l.write-index l.writes)) l.initial.lines.items l.lines.items }
