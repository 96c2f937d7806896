use Rattle.std.proofs.Common.{take}
use Rattle.op_model.specs.declared.lowered.LoweredMethod.{LoweredMethod}
use Rattle.op_model.specs.declared.node.Node.{Node}
use Rattle.stage_transfer.specs.Settings.{Setting}
use Rattle.stage_flow.specs.Stores.{given_path, IsStoreIn}
use Rattle.stage_flow.proofs.Gathered.{AreGathered}
use Rattle.stage_flow.proofs.store.FieldStore.gathered.Given as goal

abbrev pub invariant-loop-path : goal.invariant-loop-path
invariant-loop-path g k =
    (w : Setting) (l : LoweredMethod) (n : Node) → IsStoreIn w k.self → g.V.NodeSlots.knows k.slots w l n
    → AreGathered (given_path w l n k.self) (take k.path-index k.set) k.initial.all k.all
