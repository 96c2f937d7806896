use Rattle.std.proofs.Common.{take}
use Rattle.ground.specs.Added.{AreAdded, OfOne}
use Rattle.certificate_printing.specs.Analysed.{site_of}
use Rattle.certificate_printing.specs.Collected.{IsEdgeLine}
use Rattle.certificate_printing.proofs.edges.add_each.Given as goal

abbrev pub invariant-loop-place : goal.invariant-loop-place
invariant-loop-place l = record {
  added : AreAdded (OfOne (IsEdgeLine l.safe.stage (site_of l.of l.safe.site)) (take l.place l.edges.edges)) l.initial.lines.items l.lines.items;
}
