use Rattle.std.proofs.Common.{take}
use Rattle.ground.specs.Added.{AreAdded, OfOne}
use Rattle.certificate_printing.specs.Collected.{IsReachedLine}
use Rattle.certificate_printing.proofs.listed.add_reached.Given as goal

abbrev pub invariant-loop-method : goal.invariant-loop-method
invariant-loop-method l = record { added : AreAdded (OfOne IsReachedLine (take l.method-index l.methods)) l.initial.lines.items l.lines.items }
