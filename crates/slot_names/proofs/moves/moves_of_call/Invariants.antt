use Rattle.std.proofs.Common.{◌≡◌, ◌++◌, map, take}
use Rattle.std.specs.Option.{option_to_list}
use Rattle.machine_nodes.specs.Slots.{argument_slots}
use Rattle.slot_names.specs.OperationMoves.{erasing}
use Rattle.slot_names.proofs.moves.moves_of_call.Given as goal

-- the slots of the result and of the arguments so far
abbrev pub invariant-loop-argument : goal.invariant-loop-argument
invariant-loop-argument l =
    l.moves.items ≡ map erasing (option_to_list l.call.result ++ argument_slots (take l.argument-index l.argument-items))
