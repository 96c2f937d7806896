use Rattle.std.proofs.Common.{take}
use Rattle.ground.specs.Added.{AreAdded, OfOne}
use Rattle.certificate_printing.specs.Collected.{IsSiteLine}
use Rattle.certificate_printing.proofs.held.add_place.Given as goal

abbrev pub invariant-loop-site : goal.invariant-loop-site
invariant-loop-site l = record { added : AreAdded (OfOne (IsSiteLine l.ground l.place.0) (take l.site-index l.site-items)) l.initial.lines.items l.lines.items }
