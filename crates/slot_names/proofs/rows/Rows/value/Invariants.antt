use Rattle.std.proofs.Common.{◌≡◌}
use Rattle.slot_names.specs.Branches.{value_of}
use Rattle.slot_names.proofs.rows.Rows.value.Given as goal

-- what is left of the way leads to the value
abbrev pub invariant-loop-left : goal.invariant-loop-left
invariant-loop-left l = value_of l.self.branches.items l.at l.left ≡ value_of l.self.branches.items l.row l.slot

abbrev pub decreases-loop-left : goal.decreases-loop-left
decreases-loop-left l = l.left
