use Rattle.std.proofs.Common.{◌≤◌, All, take}
use Rattle.flow_graph.specs.declared.uncaught.Range.{Range}
use Rattle.flow_graph.proofs.uncaught.width_of.Given as goal

abbrev pub invariant-loop-range : goal.invariant-loop-range
invariant-loop-range l = All (λ (r : Range). r.to ≤ l.width) (take l.range-index l.ranges)
