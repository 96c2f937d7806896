-- Public contracts rest on this module.
-- What is known of the slots at a node, be it of a method or of the start of the program.
use Rattle.op_model.specs.declared.lowered.LoweredMethod.{LoweredMethod}
use Rattle.op_model.specs.declared.node.Node.{Node}
use Rattle.stage_transfer.specs.Settings.{Setting}
use Rattle.stage_slots.specs.Known.{IsKnownIn}
use Rattle.ground_views.specs.declared.node_slots.AnySlots.{AnySlots}
use Rattle.ground_views.specs.declared.node_slots.AnySlots.TheVariants.{Method, Start}
use Rattle.ground_views.specs.AtStart.{IsKnownAtStart}

-- It is what the setting answers at this node of this method.
abbrev pub KnownOf : AnySlots → Setting → LoweredMethod → Node → Type 0
KnownOf (Method k) = IsKnownIn k
KnownOf (Start s) = IsKnownAtStart s.ground.now
