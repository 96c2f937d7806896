use Rattle.std.proofs.Common.{◌≡◌, take}
use Rattle.call_graph.proofs.sites.sites_of.Given as goal

abbrev pub invariant-loop-number : goal.invariant-loop-number
invariant-loop-number l = record { read : l.sites.items ≡ take l.number l.tables.sites }
