use Rattle.lowering_operations.proofs.MovesMade.{cleared_more, added}
use Rattle.lowering_operations.proofs.moves.push_cleared.Goals as goal

pub loop-k-preserved : goal.loop-k-preserved
loop-k-preserved c = added c.args.moves.now.items _ _ _ _ _ c.loop-k.invariant c.in_ok-push.ensures.items (cleared_more c.args.start c.loop-k.k)
