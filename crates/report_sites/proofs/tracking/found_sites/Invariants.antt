use Rattle.std.proofs.Common.{[], take}
use Rattle.ground.specs.Added.{AreAdded, OfOne}
use Rattle.report_sites.specs.Found.{IsSiteOfMethod}
use Rattle.report_sites.proofs.tracking.found_sites.Given as goal

abbrev pub invariant-loop-place : goal.invariant-loop-place
invariant-loop-place l = record {
  added : AreAdded (OfOne (IsSiteOfMethod l.wanted.program.now l.ground l.wanted.upper) (take l.place l.ground.methods)) [] l.sites.items;
}
