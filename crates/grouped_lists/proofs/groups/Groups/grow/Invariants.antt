use Rattle.std.proofs.Common.{◌+◌, ◌-◌, length}
use Rattle.grouped_lists.specs.Groups.{IsSame}
use Rattle.grouped_lists.proofs.groups.Groups.grow.Given as goal

abbrev pub invariant-loop-self : goal.invariant-loop-self
invariant-loop-self g l = record { same : IsSame l.initial.self.groups.items l.self.groups.items }

abbrev pub decreases-loop-self : goal.decreases-loop-self
decreases-loop-self g l = l.number + 1 - length l.self.groups.items
