use Rattle.std.proofs.Common.{arith}
use Rattle.lowering_operations.proofs.MovesMade.{moves_more, added}
use Rattle.lowering_operations.proofs.moves.push_moves.Goals as goal

pub loop-unit-preserved : goal.loop-unit-preserved
loop-unit-preserved c =
    let more = moves_more c.args.operand c.args.base c.args.start c.args.units.now c.loop-unit.unit-index _ c.loop-unit.target _ c.loop-unit-test.true c.loop-unit.invariant.at c.source_of.ensures in
    let step = c.in_ok-push_move.ensures in
    record { at = omega arith; made = added c.args.moves.now.items _ _ _ _ _ c.loop-unit.invariant.made step more }
