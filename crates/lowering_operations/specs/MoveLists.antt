-- Public contracts rest on this module.
-- The moves of a row as one list: first what is stored, then what is pushed, and then the popped units beyond that.
use Rattle.std.specs.Prelude.{ℕ, zero, suc, ◌+◌, ◌-◌, Bool, false, nat_eq, cond, List, [], ◌∷◌, ◌++◌, length}
use Rattle.jvm_model.specs.Table.{Row, UnitSource, popped, the_local, a_null, a_primitive, the_made}
use Rattle.op_model.specs.declared.op.Move.{Move}
use Rattle.op_model.specs.declared.op.Source.{Source}
use Rattle.op_model.specs.declared.op.Source.TheVariants as sources

-- What a unit is read from. What an action makes is read from no slot.
abbrev pub source_of : ℕ → ℕ → UnitSource → Source
source_of operand base (popped unit) = sources.Slot (base + unit)
source_of operand base the_local = sources.Slot operand
source_of operand base a_null = sources.Null
source_of operand base a_primitive = sources.Primitive
source_of operand base the_made = sources.Primitive

abbrev pub is_self : Source → ℕ → Bool
is_self (sources.Slot slot) target = nat_eq slot target
is_self sources.Null target = false
is_self sources.Primitive target = false

-- The move of one unit, if it is none of a slot to itself.
abbrev pub move_to : Source → ℕ → List Move
move_to source target = cond (is_self source target) [] (record { source = source; target = target } ∷ [])

-- The moves of units that are written from a slot on.
abbrev pub moves_from : ℕ → ℕ → ℕ → List UnitSource → List Move
moves_from operand base target [] = []
moves_from operand base target (u ∷ units) = move_to (source_of operand base u) target ++ moves_from operand base (target + 1) units

-- So many slots, from one on, become those of primitives.
abbrev pub cleared_from : ℕ → ℕ → List Move
cleared_from zero target = []
cleared_from (suc count) target = record { source = sources.Primitive; target = target } ∷ cleared_from count (target + 1)

-- The moves of a row, whose operand names a local variable, and whose lowest popped unit is the slot `base`.
abbrev pub moves_of : Row → ℕ → ℕ → List Move
moves_of r operand base =
    (moves_from operand base operand r.stores ++ moves_from operand base base r.pushes) ++ cleared_from (length r.pops - length r.pushes) (base + length r.pushes)
