use Rattle.std.proofs.Common.{◌-◌, ◌^◌}
use Rattle.call_graph.specs.Rows.{AddsSitesBelow}
use Rattle.call_graph.proofs.rows.add_sites.Given as goal

abbrev pub invariant-loop-number : goal.invariant-loop-number
invariant-loop-number l = record { added : AddsSitesBelow l.set l.place l.low l.initial.sites.groups.items l.sites.groups.items }

abbrev pub decreases-loop-number : goal.decreases-loop-number
decreases-loop-number l = 2 ^ 32 - l.low
