use Rattle.std.specs.BTreeSet.{btree_set_len}
use Rattle.flow_graph.specs.Walking.{AreAwaited}
use Rattle.flow_graph.proofs.walk.first_waiting.Given as goal

abbrev pub decreases-loop-number : goal.decreases-loop-number
decreases-loop-number l = btree_set_len l.awaited

abbrev pub invariant-loop-number : goal.invariant-loop-number
invariant-loop-number l = AreAwaited l.awaited l.marks
