use Rattle.std.proofs.Common.{◌≤◌, drop, length}
use Rattle.slot_names.specs.MovedRows.{IsMoved}
use Rattle.slot_names.proofs.moved.moved_row.Given as goal

-- the last moves are made
abbrev pub invariant-loop-left : goal.invariant-loop-left
invariant-loop-left l = record {
  moved : IsMoved l.fn.rows l.rows l.method l.entry (drop l.left l.moves) l.offset l.row;
  within : l.left ≤ length l.moves;
}

abbrev pub decreases-loop-left : goal.decreases-loop-left
decreases-loop-left l = l.left
