use Rattle.std.proofs.Common.{length}
use Rattle.site_rows.specs.Rows.{AreWaiting}
use Rattle.site_rows.proofs.waiting.next_place.Given as goal

abbrev pub invariant-loop-place : goal.invariant-loop-place
invariant-loop-place l = record { waiting : AreWaiting l.rows.items l.waiting.items }

abbrev pub decreases-loop-place : goal.decreases-loop-place
decreases-loop-place l = length l.waiting.items
