use Rattle.std.proofs.Common.{◌≡◌, take, false}
use Rattle.std.specs.List.{list_any}
use Rattle.op_model.specs.declared.lowered.LoweredMethod.{LoweredMethod}
use Rattle.op_model.specs.declared.node.Node.{Node}
use Rattle.stage_transfer.specs.Settings.{Setting}
use Rattle.stage_flow.specs.Stores.{loses_by, IsStoreIn}
use Rattle.stage_flow.proofs.store.FieldStore.loses.Given as goal

abbrev pub invariant-loop-path : goal.invariant-loop-path
invariant-loop-path g k =
    (w : Setting) (l : LoweredMethod) (n : Node) → IsStoreIn w k.self → g.V.NodeSlots.knows k.slots w l n
    → list_any (loses_by w l n k.self k.set) (take k.path-index k.set) ≡ false
