use Rattle.std.proofs.Common.{◌≡◌, ◌++◌, map, take, drop}
use Rattle.flow_graph.specs.Uncaught.{halved, IsAlone, ListsMore}
use Rattle.flow_graph.proofs.uncaught.put_ranges.Given as goal

abbrev pub invariant-loop-range : goal.invariant-loop-range
invariant-loop-range l = record {
  put : ListsMore (IsAlone (take l.range-index l.fn.ranges)) l.fn.level l.level;
  left : l.ranges ≡ map halved (take l.range-index l.fn.ranges) ++ drop l.range-index l.fn.ranges;
}
