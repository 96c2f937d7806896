use Rattle.std.proofs.Common.{◌+◌, ◌-◌, length}
use Rattle.tabulation_tables.specs.Marks.{AreSameMarks}
use Rattle.tabulation_tables.proofs.visits.grow.Given as goal

abbrev pub invariant-loop-marks : goal.invariant-loop-marks
invariant-loop-marks l = record { same : AreSameMarks l.initial.marks.items l.marks.items }

abbrev pub decreases-loop-marks : goal.decreases-loop-marks
decreases-loop-marks l = l.number + 1 - length l.marks.items
