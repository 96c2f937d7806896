use Rattle.std.proofs.Common.{◌+◌, ◌-◌, length}
use Rattle.site_rows.specs.Rows.{HasSameRows}
use Rattle.site_rows.proofs.places.reach.Given as goal

abbrev pub invariant-loop-rows : goal.invariant-loop-rows
invariant-loop-rows l = record { same : HasSameRows l.initial.rows.items l.rows.items }

abbrev pub decreases-loop-rows : goal.decreases-loop-rows
decreases-loop-rows l = l.place + 1 - length l.rows.items
