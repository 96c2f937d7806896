-- Public contracts rest on this module.
-- What nodes do to the slots of a frame. It is said of each slot how it reads afterwards, and of no list how long it is: a push
-- writes a slot past the list's end, and a slot outside counts as that of a primitive.
use Rattle.std.specs.Prelude.{◌≡◌, ◌≢◌, ℕ, ◌<◌, List, map, Option, Some, Contains}
use Rattle.std.specs.List.{flat_map}
use Rattle.std.specs.Option.{option_to_list, option_map_or}
use Rattle.op_model.specs.declared.op.Move.{Move}
use Rattle.op_model.specs.declared.op.Source.{Source}
use Rattle.op_model.specs.declared.op.Source.TheVariants as sources
use Rattle.machine_bytecode.specs.States.{Value, primitive_value, null_value, slot_at}

-- What a move gives, from the slots as they were before.
abbrev pub source_value : Source → List Value → Value
source_value (sources.Slot z) slots = slot_at slots z
source_value sources.Null slots = null_value
source_value sources.Primitive slots = primitive_value

-- Each move's target reads as its source did, and no other slot changes.
pub record AreMoved (moves : List Move) (before after : List Value) : Type 0 where
  pub moved : (m : Move) → Contains moves m → slot_at after m.target ≡ source_value m.source before
  pub kept : (z : ℕ) → ((m : Move) → Contains moves m → m.target ≢ z) → slot_at after z ≡ slot_at before z

-- The target, if there is one, reads as the value; each other operand as a primitive; and no other slot changes.
pub record AreLeft (operands : List ℕ) (target : Option ℕ) (v : Value) (before after : List Value) : Type 0 where
  pub given : (z : ℕ) → target ≡ Some z → slot_at after z ≡ v
  pub cleared : (z : ℕ) → Contains operands z → target ≢ Some z → slot_at after z ≡ primitive_value
  pub kept : (z : ℕ) → (Contains operands z → ⊥) → target ≢ Some z → slot_at after z ≡ slot_at before z

-- No slot changes.
abbrev pub AreSame : List Value → List Value → Type 0
AreSame before after = (z : ℕ) → slot_at after z ≡ slot_at before z

-- The units of a call: the slot of each, and a primitive where there is none.
abbrev pub argument_values : List (Option ℕ) → List Value → List Value
argument_values arguments slots = map (λ (a : Option ℕ). option_map_or (slot_at slots) a primitive_value) arguments

-- The slots that it reads.
abbrev pub argument_slots : List (Option ℕ) → List ℕ
argument_slots arguments = flat_map option_to_list arguments

-- The value that a return gives; it is a primitive, or none, where there is no slot.
abbrev pub returned_value : Option ℕ → List Value → Value
returned_value value slots = option_map_or (slot_at slots) value primitive_value

-- At a handler the local variables stay, the first unit of the stack is the thrown object, and there is no other.
pub record AreCaught (locals : ℕ) (thrown : Value) (before after : List Value) : Type 0 where
  pub kept : (z : ℕ) → z < locals → slot_at after z ≡ slot_at before z
  pub given : slot_at after locals ≡ thrown
  pub cleared : (z : ℕ) → locals < z → slot_at after z ≡ primitive_value
