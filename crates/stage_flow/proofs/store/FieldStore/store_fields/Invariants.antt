use Rattle.std.specs.List.{range_with_len}
use Rattle.op_model.specs.declared.lowered.LoweredMethod.{LoweredMethod}
use Rattle.op_model.specs.declared.node.Node.{Node}
use Rattle.access_paths.specs.Followed.{listed}
use Rattle.stage_transfer.specs.Settings.{Setting}
use Rattle.stage_flow.specs.Stores.{stored_at}
use Rattle.stage_flow.proofs.Gathered.{AreGathered}
use Rattle.stage_flow.proofs.store.FieldStore.store_fields.Given as goal

abbrev pub invariant-loop-slot : goal.invariant-loop-slot
invariant-loop-slot g k =
    (w : Setting) (l : LoweredMethod) (n : Node) → g.V.NodeSlots.knows k.slots w l n
    → AreGathered (stored_at w l n k.self (listed k.fields)) (range_with_len 0 k.slot) k.initial.all k.all
