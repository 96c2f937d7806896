use Rattle.std.proofs.Common.{List, ◌++◌, map}
use Rattle.std.specs.List.{filter, range_with_len}
use Rattle.op_model.specs.declared.lowered.LoweredMethod.{LoweredMethod}
use Rattle.op_model.specs.declared.node.Node.{Node}
use Rattle.access_paths.specs.Paths.{Path}
use Rattle.stage_transfer.specs.Settings.{Setting}
use Rattle.stage_views.specs.Views.{Gathers}
use Rattle.stage_calls.specs.Testing.{bare_slot, is_like}
use Rattle.stage_calls.proofs.sets.join_shared.Given as goal

-- those of the slots so far are gathered
abbrev pub invariant-loop-other : goal.invariant-loop-other
invariant-loop-other g l = (w : Setting) (m : LoweredMethod) (n : Node) (before : List Path) → g.V.NodeSlots.knows l.slots w m n → Gathers l.initial.gathering before
    → Gathers l.gathering (before ++ map bare_slot (filter (is_like w m n l.slot) (range_with_len 0 l.other)))
