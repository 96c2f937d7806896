-- Public contracts rest on this module.
-- What flows from slot to slot, by the names at nodes, which stand for their places.
use Rattle.std.specs.Prelude.{◌≡◌, ℕ, ◌+◌, ◌<◌, List, IsTrue, nat_eq, if◌then◌else◌}
use Rattle.std.specs.List.{list_any}
use Rattle.jvm_model.specs.declared.number.MethodNo.{MethodNo}
use Rattle.op_model.specs.declared.lowered.LoweredMethod.{LoweredMethod}
use Rattle.op_model.specs.declared.op.Op.{Op}
use Rattle.points_to_constraints.specs.Items.{Item, copy_to, constrained}
use Rattle.points_to_methods.specs.declared.effects.Effect.{Effect as OfSlot}
use Rattle.points_to_methods.specs.declared.effects.Effect.TheVariants as of_slots
use Rattle.points_to_rules.specs.Facts.{Holder, variable}
use Rattle.slot_names.specs.declared.variable.Variable.TheVariants.{Parameter}
use Rattle.slot_names.specs.NodePlaces.{StandsAt}
use Rattle.slot_names.specs.Tables.{NameTable}
use Rattle.slot_names.specs.Variables.{Effect, effect_on, keeps, moves, writes}

-- What an effect is, as it is computed.
abbrev pub effect_of : OfSlot → Effect
effect_of of_slots.Keeps = keeps
effect_of (of_slots.Moves source) = moves source
effect_of of_slots.Writes = writes

-- What an operation does to a slot that writes these slots.
abbrev pub effect_of_writes : ℕ → List ℕ → Effect
effect_of_writes z slots = if list_any (λ (y : ℕ). nat_eq y z) slots then writes else keeps

-- What a slot holds at a node.
abbrev pub slot_holder : NameTable → (node z : ℕ) → Holder
slot_holder names node z = variable (names.variable node z)

-- What one slot holds at a node, another one holds at the next node.
abbrev pub PassesSlot : NameTable → (node y next z : ℕ) → Item → Type 0
PassesSlot names node y next z x = x ≡ constrained (slot_holder names node y) (copy_to (slot_holder names next z))

-- What a parameter holds, its slot holds at the first node.
abbrev pub EntersSlot : NameTable → MethodNo → ℕ → Item → Type 0
EntersSlot names m z x = x ≡ constrained (variable (Parameter m z)) (copy_to (slot_holder names 0 z))

-- What a slot is left by the effect on it.
abbrev pub PassesBy : NameTable → (node next z : ℕ) → Effect → Item → Type 0
PassesBy names node next z keeps x = PassesSlot names node z next z x
PassesBy names node next z (moves y) x = PassesSlot names node y next z x
PassesBy names node next z writes x = ⊥

-- What the operation leaves the slots at the merge point of an offset.
abbrev pub FlowsTo : LoweredMethod → NameTable → Op → (node offset : ℕ) → Item → Type 0
FlowsTo l names op node offset x =
    (next : ℕ) × StandsAt l offset next × IsTrue (names.merges next)
    × ((z : ℕ) × (z < l.slots + l.stack) × PassesBy names node next z (effect_on z op) x)

-- What the local variables hold at a node, they hold at the handler of an offset.
abbrev pub HandsTo : LoweredMethod → NameTable → (node offset : ℕ) → Item → Type 0
HandsTo l names node offset x =
    (next : ℕ) × StandsAt l offset next × ((z : ℕ) × (z < l.slots) × PassesSlot names node z next z x)

-- What is made of what a slot holds at the node of an offset.
abbrev pub MadeAt : LoweredMethod → NameTable → (Holder → Item) → (z offset : ℕ) → Item → Type 0
MadeAt l names make z offset x = (next : ℕ) × StandsAt l offset next × (x ≡ make (slot_holder names next z))
