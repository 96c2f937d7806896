use Rattle.std.proofs.Common.{◌≤◌, length}
use Rattle.ground.specs.Added.{AreAdded}
use Rattle.certificate_printing.specs.Collected.{IsHeldLine, OfBelow}
use Rattle.certificate_printing.proofs.held.add_places.Given as goal

abbrev pub invariant-loop-place : goal.invariant-loop-place
invariant-loop-place l = record {
  added : AreAdded (OfBelow (IsHeldLine l.ground) l.place) l.initial.lines.items l.lines.items;
  within : l.place ≤ length l.ground.holders;
}
