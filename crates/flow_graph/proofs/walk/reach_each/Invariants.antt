use Rattle.std.proofs.Common.{◌≡◌, drop}
use Rattle.flow_graph.specs.Walks.{reached, at_each}
use Rattle.flow_graph.proofs.walk.reach_each.Given as goal

abbrev pub invariant-loop-offset : goal.invariant-loop-offset
invariant-loop-offset l =
    at_each (reached l.height) l.instructions l.marks (drop l.offset-index l.offsets) ≡ at_each (reached l.height) l.instructions l.initial.marks l.offsets
