use Rattle.std.proofs.Common.{◌≡◌, false, take}
use Rattle.std.specs.List.{list_any}
use Rattle.op_model.specs.declared.lowered.LoweredMethod.{LoweredMethod}
use Rattle.op_model.specs.declared.node.Node.{Node}
use Rattle.stage_transfer.specs.Settings.{Setting}
use Rattle.stage_views.specs.Views.{entering_of}
use Rattle.stage_calls.specs.Testing.{doubles}
use Rattle.stage_calls.proofs.left_out.is_doubled.Given as goal

-- none of the paths so far doubles it
abbrev pub invariant-loop-other : goal.invariant-loop-other
invariant-loop-other g l = (w : Setting) (m : LoweredMethod) (n : Node) → g.V.NodeSlots.knows l.joins.slots.now w m n
    → list_any (doubles w m n (entering_of l.joins.by) l.joins.target l.path l.slot) (take l.other-index l.caller) ≡ false
