-- Public contracts rest on this module.
-- The moves of an instruction that only pops and writes units (JVMS 2.6, 6.5): where the units are slots, and what each slot that
-- it writes or pops gets.
use Rattle.std.specs.Prelude.{◌≡◌, ◌≢◌, ◌↔◌, ℕ, ◌+◌, ◌<◌, ◌≤◌, List, length, Some, slice_get, Contains}
use Rattle.jvm_model.specs.Table.{Row, UnitSource, popped, the_local, a_null, a_primitive, the_made}
use Rattle.op_model.specs.declared.op.Move.{Move}
use Rattle.op_model.specs.declared.op.Source.{Source}
use Rattle.op_model.specs.declared.op.Source.TheVariants as sources

-- What a unit is read from. The lowest popped unit is the slot `base`; the operand names a local variable. What an action makes
-- is read from no slot.
abbrev pub IsSourceOf : ℕ → ℕ → UnitSource → Source → Type 0
IsSourceOf operand base (popped unit) s = s ≡ sources.Slot (base + unit)
IsSourceOf operand base the_local s = s ≡ sources.Slot operand
IsSourceOf operand base a_null s = s ≡ sources.Null
IsSourceOf operand base a_primitive s = s ≡ sources.Primitive
IsSourceOf operand base the_made s = ⊥

-- A slot that the instruction writes or pops, and what it gets: a unit that is stored into the local variables, or pushed; and a
-- popped slot above those that are pushed becomes that of a primitive.
pub data IsWrite (r : Row) (operand base : ℕ) (m : Move) : Type 0 where
  stored : (place : ℕ) (u : UnitSource) → slice_get r.stores place ≡ Some u → m.target ≡ operand + place
      → IsSourceOf operand base u m.source → IsWrite r operand base m
  pushed : (place : ℕ) (u : UnitSource) → slice_get r.pushes place ≡ Some u → m.target ≡ base + place
      → IsSourceOf operand base u m.source → IsWrite r operand base m
  cleared : (place : ℕ) → length r.pushes ≤ place → place < length r.pops → m.target ≡ base + place
      → m.source ≡ sources.Primitive → IsWrite r operand base m

-- These are all of them, but for a slot that gets its own value, in any order.
pub record AreMovesOf (r : Row) (operand base : ℕ) (moves : List Move) : Type 0 where
  pub each : (m : Move) → Contains moves m ↔ (IsWrite r operand base m × (m.source ≢ sources.Slot m.target))
