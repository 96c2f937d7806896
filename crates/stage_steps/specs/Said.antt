-- Public contracts rest on this module.
-- What the lemmas on steps speak of: objects that are tracked, slots of one variable, references that are to objects, and what results say.
use Rattle.std.specs.Prelude.{◌≡◌, ◌⊎◌, ℕ, ◌<◌, List, length, Option, Some, None, slice_get, Contains}
use Rattle.jvm_model.specs.declared.number.FieldNo.{FieldNo}
use Rattle.jvm_model.specs.declared.number.MethodNo.{MethodNo}
use Rattle.jvm_model.specs.declared.site.Site.{Site}
use Rattle.op_model.specs.declared.lowered.LoweredMethod.{LoweredMethod}
use Rattle.op_model.specs.declared.node.Node.{Node}
use Rattle.op_model.specs.declared.op.Call.{Call as NodeCall}
use Rattle.machine_bytecode.specs.States.{Value, reference_to, Object, World, slot_at}
use Rattle.machine_nodes.specs.Slots.{AreCaught}
use Rattle.points_to_rules.specs.Facts.{Fact, may_write}
use Rattle.stage_facts.specs.Facts.{SiteFact, Says}
use Rattle.stage_facts.specs.Values.{Cell, cell_value, field_in, part_at, of_slots, of_throw}
use Rattle.stage_transfer.specs.Calls.{Entering, by_call}
use Rattle.stage_relations.specs.Roots.{AreAlike}

-- The place has an object of the site, or none yet.
abbrev pub IsTracked : Site → ℕ → List Object → Type 0
IsTracked s place heap = (o : Object) → slice_get heap place ≡ Some o → o.site ≡ s

-- Two slots of one variable at the node have one value.
abbrev pub AreEqual : LoweredMethod → Node → List Value → Type 0
AreEqual l n slots = (y z : ℕ) → AreAlike l n y z → slot_at slots y ≡ slot_at slots z

-- They have one where both refer to objects: in a frame that waits, arguments are gone.
abbrev pub AgreeOnPlaces : LoweredMethod → Node → List Value → Type 0
AgreeOnPlaces l n slots = (y z p q : ℕ) → AreAlike l n y z → slot_at slots y ≡ reference_to p → slot_at slots z ≡ reference_to q → p ≡ q

-- Whatever stands in a cell refers to an object that is there.
pub record IsBounded (w : World) (slots : List Value) : Type 0 where
  pub each : (c : Cell) (place : ℕ) → cell_value w (of_slots slots) c ≡ reference_to place → place < length w.heap

-- Only instance fields changed that the method may write.
pub record ChangesFields (S : Fact → Type 0) (m : MethodNo) (before after : List Object) : Type 0 where
  pub each : (place : ℕ) (f : FieldNo) → (part_at (field_in f) after place ≡ part_at (field_in f) before place) ⊎ S (may_write m f)

-- Some of the facts says so.
pub record Results (facts : List SiteFact) (Says : SiteFact → Type 0) : Type 0 where
  pub fact : SiteFact
  pub listed : Contains facts fact
  pub says : Says fact

-- What a fact says where a thrown object goes: in the handler, with the slots that it gets; or out of the method.
abbrev pub SaysCaught : Site → SiteFact → ℕ → World → (slots : List Value) → (locals : ℕ) → (thrown : ℕ) → (handler : Option ℕ) → Type 0
SaysCaught s f place w slots locals thrown None = Says s f place w (of_throw thrown)
SaysCaught s f place w slots locals thrown (Some offset) = (left : List Value) → AreCaught locals (reference_to thrown) slots left → Says s f place w (of_slots left)

-- An argument of the call has the object at the place.
pub record IsPassed (by : Entering) (old : List Value) (unit place : ℕ) : Type 0 where
  pub call : NodeCall
  pub by_is : by ≡ by_call call
  pub slot : ℕ
  pub argument : slice_get call.arguments unit ≡ Some (Some slot)
  pub is : slot_at old slot ≡ reference_to place

-- The slots of a frame that is entered: each argument stands at its unit, and no other slot has the object at the place.
pub record BeginsWith (by : Entering) (old locals : List Value) (place : ℕ) : Type 0 where
  pub given : (c : NodeCall) (unit z : ℕ) → by ≡ by_call c → slice_get c.arguments unit ≡ Some (Some z) → slot_at locals unit ≡ slot_at old z
  pub others : (unit : ℕ) → slot_at locals unit ≡ reference_to place → IsPassed by old unit place
