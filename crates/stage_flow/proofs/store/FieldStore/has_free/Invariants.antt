use Rattle.std.proofs.Common.{◌≡◌, false}
use Rattle.std.specs.List.{list_any, range_with_len}
use Rattle.op_model.specs.declared.lowered.LoweredMethod.{LoweredMethod}
use Rattle.op_model.specs.declared.node.Node.{Node}
use Rattle.stage_transfer.specs.Settings.{Setting}
use Rattle.stage_flow.specs.Stores.{is_free}
use Rattle.stage_flow.proofs.store.FieldStore.has_free.Given as goal

abbrev pub invariant-loop-slot : goal.invariant-loop-slot
invariant-loop-slot g k =
    (w : Setting) (l : LoweredMethod) (n : Node) → g.V.NodeSlots.knows k.slots w l n
    → list_any (is_free w l n k.self) (range_with_len 0 k.slot) ≡ false
