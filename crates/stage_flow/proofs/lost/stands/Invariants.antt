use Rattle.std.proofs.Common.{◌≡◌, take, false}
use Rattle.std.specs.List.{list_any}
use Rattle.op_model.specs.declared.lowered.LoweredMethod.{LoweredMethod}
use Rattle.op_model.specs.declared.node.Node.{Node}
use Rattle.stage_transfer.specs.Settings.{Setting}
use Rattle.stage_flow.specs.Shapes.{is_double, written_of}
use Rattle.stage_flow.proofs.lost.stands.Given as goal

abbrev pub invariant-loop-other : goal.invariant-loop-other
invariant-loop-other g k =
    (w : Setting) (l : LoweredMethod) (n : Node) → g.V.NodeSlots.knows k.slots w l n
    → list_any (is_double w l n (written_of k.written) k.path) (take k.other-index k.set) ≡ false
