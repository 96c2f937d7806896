-- This crate's own proofs alone rest on this module.
-- What operations do to slots, as moves.
use Rattle.std.specs.Prelude.{ℕ, List, map}
use Rattle.op_model.specs.declared.op.Move.{Move}
use Rattle.op_model.specs.declared.op.Op.{Op}
use Rattle.op_model.specs.declared.op.Op.TheVariants.{Assign}
use Rattle.op_model.specs.declared.op.Source.TheVariants.{Primitive}
use Rattle.slot_names.specs.Variables.{written_slots}

-- The move of a primitive into a slot.
abbrev pub erasing : ℕ → Move
erasing slot = record { source = Primitive; target = slot }

-- The moves of an assignment, and otherwise one of a primitive into each slot that is written.
abbrev pub moves_of : Op → List Move
moves_of (Assign given) = given
moves_of op = map erasing (written_slots op)
