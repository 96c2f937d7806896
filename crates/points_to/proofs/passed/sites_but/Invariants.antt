use Rattle.std.proofs.Common.{◌-◌, ◌^◌}
use Rattle.points_to.specs.Sites.{AreListedBelow}
use Rattle.points_to.proofs.passed.sites_but.Given as goal

abbrev pub invariant-loop-number : goal.invariant-loop-number
invariant-loop-number l = record { listed : AreListedBelow l.set l.except l.low l.sites.items }

abbrev pub decreases-loop-number : goal.decreases-loop-number
decreases-loop-number l = 2 ^ 32 - l.low
