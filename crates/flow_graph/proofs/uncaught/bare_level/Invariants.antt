use Rattle.flow_graph.specs.Uncaught.{IsBare}
use Rattle.flow_graph.proofs.uncaught.bare_level.Given as goal

abbrev pub invariant-loop-place : goal.invariant-loop-place
invariant-loop-place l = IsBare l._place (record { lists = l.lists })
