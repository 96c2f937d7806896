use Rattle.std.proofs.Common.{◌-◌, ◌^◌}
use Rattle.call_graph.proofs.Closings.{IsClosing}
use Rattle.call_graph.proofs.writes.close_writes.Given as goal

abbrev pub invariant-loop-done : goal.invariant-loop-done
invariant-loop-done l = record { closing : IsClosing l.fn.own.keys l.edges.keys l.writes.keys l.done }

abbrev pub decreases-loop-done : goal.decreases-loop-done
decreases-loop-done l = 2 ^ 63 - l.done
