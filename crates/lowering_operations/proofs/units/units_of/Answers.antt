use Rattle.std.proofs.Common.{[]}
use Rattle.lowering_operations.proofs.MovesMade.{added}
use Rattle.lowering_operations.proofs.UnitsMade.{kinds_more}
use Rattle.lowering_operations.proofs.units.units_of.Goals as goal

pub loop-kind-preserved : goal.loop-kind-preserved
loop-kind-preserved c =
    added [] _ _ _ _ _ c.loop-kind.invariant c.in_ok-push_kind.ensures (kinds_more c.args.kinds.now c.loop-kind.kind-index c.kind-item.result c.loop-kind-test.true c.kind-item.is)
