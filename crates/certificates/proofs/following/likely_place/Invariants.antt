use Rattle.std.proofs.Common.{◌≤◌, ◌-◌, length}
use Rattle.certificates.proofs.following.likely_place.Given as goal

abbrev pub invariant-loop-from : goal.invariant-loop-from
invariant-loop-from l = record {
  ordered : l.from ≤ l.to;
  within : l.to ≤ length l.lines;
}

abbrev pub decreases-loop-from : goal.decreases-loop-from
decreases-loop-from l = l.to - l.from
