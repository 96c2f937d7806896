use Rattle.points_to_methods.proofs.NodesTaken.{NodesTaken}
use Rattle.points_to_methods.proofs.methods.method_items.Given as goal

abbrev pub invariant-loop-node : goal.invariant-loop-node
invariant-loop-node l = NodesTaken l.program l.method l.node l.fn.work.tables l.work.tables l.fn.work.steps.items l.work.steps.items
