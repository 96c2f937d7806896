use Rattle.std.proofs.Common.{◌≡◌, drop}
use Rattle.flow_graph.specs.Flows.{each_once}
use Rattle.flow_graph.specs.Walking.{AreAmong}
use Rattle.flow_graph.proofs.flow.add_each_once.Given as goal

abbrev pub invariant-loop-offset : goal.invariant-loop-offset
invariant-loop-offset l = AreAmong l.among l.met.items × (each_once l.met.items (drop l.offset-index l.offsets) ≡ each_once l.initial.met.items l.offsets)
