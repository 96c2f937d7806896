use Rattle.std.proofs.Common.{◌≡◌, take, false}
use Rattle.std.specs.List.{list_any}
use Rattle.op_model.specs.declared.lowered.LoweredMethod.{LoweredMethod}
use Rattle.op_model.specs.declared.node.Node.{Node}
use Rattle.stage_transfer.specs.Changes.{changed_set, is_lost}
use Rattle.stage_transfer.specs.Settings.{Setting}
use Rattle.stage_flow.specs.Shapes.{change_of, IsProper}
use Rattle.stage_flow.proofs.change.PathChange.loses.Given as goal

abbrev pub invariant-loop-path : goal.invariant-loop-path
invariant-loop-path g k =
    (w : Setting) (l : LoweredMethod) (n : Node) → g.V.NodeSlots.knows k.slots w l n → IsProper k.self
    → list_any (is_lost (change_of w l n k.self) (changed_set (change_of w l n k.self) k.set)) (take k.path-index k.set) ≡ false
