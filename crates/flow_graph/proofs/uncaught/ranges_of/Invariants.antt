use Rattle.std.proofs.Common.{◌≡◌, map, take}
use Rattle.flow_graph.specs.Uncaught.{range_of}
use Rattle.flow_graph.proofs.uncaught.ranges_of.Given as goal

abbrev pub invariant-loop-handler : goal.invariant-loop-handler
invariant-loop-handler l = l.ranges.items ≡ map range_of (take l.handler-index l.handlers)
