use Rattle.std.proofs.Common.{[], arith}
use Rattle.lowering_operations.proofs.MovesMade.{added}
use Rattle.lowering_operations.proofs.UnitsMade.{slots_more}
use Rattle.lowering_operations.proofs.units.unit_slots.Goals as goal

pub loop-unit-preserved : goal.loop-unit-preserved
loop-unit-preserved c =
    let more = slots_more c.args.start c.args.units.now c.loop-unit.unit-index _ c.loop-unit.slot c.slot_of.result c.loop-unit-test.true c.loop-unit.invariant.at c.slot_of.ensures in
    record { at = omega arith; made = added [] _ _ _ _ _ c.loop-unit.invariant.made c.in_ok-push.ensures.items more }
