use Rattle.std.proofs.Common.{◌≡◌, take, false}
use Rattle.std.specs.List.{list_any}
use Rattle.op_model.specs.declared.lowered.LoweredMethod.{LoweredMethod}
use Rattle.op_model.specs.declared.node.Node.{Node}
use Rattle.op_model.specs.declared.op.Move.{Move}
use Rattle.stage_transfer.specs.Settings.{Setting}
use Rattle.stage_flow.specs.Shapes.{moves_on}
use Rattle.stage_flow.proofs.handed.is_moved.Given as goal

abbrev pub invariant-loop-step : goal.invariant-loop-step
invariant-loop-step g k =
    (w : Setting) (l : LoweredMethod) (n : Node) → g.V.NodeSlots.knows k.slots w l n
    → list_any (λ (m : Move). moves_on w l n k.moves k.set k.path m.source m.target) (take k.step-index k.moves) ≡ false
