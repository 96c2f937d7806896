use Rattle.std.proofs.Common.{◌≡◌, false, take}
use Rattle.machine_nodes.specs.Slots.{argument_slots}
use Rattle.stage_transfer.specs.Settings.{among}
use Rattle.stage_views.proofs.arguments.is_argument.Given as goal

-- none of the arguments so far has the slot
abbrev pub invariant-loop-argument : goal.invariant-loop-argument
invariant-loop-argument l = among (argument_slots (take l.argument-index l.arguments)) l.slot ≡ false
