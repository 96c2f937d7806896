use Rattle.std.proofs.Common.{◌≤◌, length}
use Rattle.ground.specs.Added.{AreAdded}
use Rattle.certificate_printing.specs.Analysed.{IsClaimLine}
use Rattle.certificate_printing.specs.Collected.{OfBelow}
use Rattle.certificate_printing.proofs.claims.add_claims.Given as goal

abbrev pub invariant-loop-place : goal.invariant-loop-place
invariant-loop-place l = record {
  added : AreAdded (OfBelow (IsClaimLine l.of l.judged) l.place) l.initial.lines.items l.lines.items;
  within : l.place ≤ length l.judged.sites.items;
}
