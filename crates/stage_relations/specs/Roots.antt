-- Public contracts rest on this module.
-- Which root has afterwards what another one had before: on the way to a successor, where a method is entered, returns or throws, and back in the
-- frame that waited.
use Rattle.std.specs.Prelude.{◌≡◌, ◌≢◌, ℕ, ◌<◌, ◌+◌, List, [], ◌∷◌, map, Option, Some, None, slice_get, Contains}
use Rattle.jvm_model.specs.declared.number.FieldNo.{FieldNo}
use Rattle.op_model.specs.declared.lowered.LoweredMethod.{LoweredMethod}
use Rattle.op_model.specs.declared.node.Node.{Node}
use Rattle.op_model.specs.declared.op.Call.{Call as NodeCall}
use Rattle.op_model.specs.declared.op.Move.{Move}
use Rattle.op_model.specs.declared.op.Op.{Op}
use Rattle.op_model.specs.declared.op.Op.TheVariants.{Assign, Load, Store, LoadElement, StoreElement, LoadStatic, StoreStatic, New, NewArray, Constant, Call, Return, Throw, Cast, Probe}
use Rattle.op_model.specs.declared.op.Source.TheVariants as sources
use Rattle.machine_nodes.specs.Slots.{argument_slots}
use Rattle.slot_names.specs.declared.variable.Variable.{Variable}
use Rattle.slot_names.specs.Variables.{AreReachedNodes, IsVariable}
use Rattle.access_paths.specs.declared.root.Root.{Root}
use Rattle.access_paths.specs.declared.root.Root.TheVariants.{Slot, Static, Returned, Thrown}
use Rattle.stage_transfer.specs.Calls.{Entering, by_call, by_trigger, passed, Result, an_argument}
use Rattle.stage_transfer.specs.Operations.{target_of}

-- ---- slots of one variable

-- The slots of the method have variables at the node; or the method is the start of the program, which has no slots.
pub data HasVariables (l : LoweredMethod) (n : Node) : Type 0 where
  of_method : AreReachedNodes l → Contains l.nodes n → HasVariables l n
  of_start : l.slots ≡ 0 → l.stack ≡ 0 → HasVariables l n

-- One slot, or two slots of one variable at the node.
pub data AreAlike (l : LoweredMethod) (n : Node) (y z : ℕ) : Type 0 where
  same : y ≡ z → AreAlike l n y z
  of_one : (v : Variable) → y < l.slots + l.stack → z < l.slots + l.stack → IsVariable l n y v → IsVariable l n z v → AreAlike l n y z

-- What a root had stands in another one: it went there, or that of a slot of its variable did.
pub data Doubles (l : LoweredMethod) (n : Node) (Goes : Root → Root → Type 0) : Root → Root → Type 0 where
  own : {r q : Root} → Goes r q → Doubles l n Goes r q
  shared : {y z : ℕ} {q : Root} → AreAlike l n z y → Goes (Slot y) q → Doubles l n Goes (Slot z) q

-- ---- operations

-- The slots that an operation writes, if it is no call, return or throw: its operands and its target. A cast keeps its slot.
abbrev pub gone_slots : Op → List ℕ
gone_slots (Assign moves) = map target_of moves
gone_slots (Load object field target) = object ∷ target ∷ []
gone_slots (Store object field value) = object ∷ value ∷ []
gone_slots (LoadElement array target) = array ∷ target ∷ []
gone_slots (StoreElement array value) = array ∷ value ∷ []
gone_slots (LoadStatic field target) = target ∷ []
gone_slots (StoreStatic field value) = value ∷ []
gone_slots (New site target) = target ∷ []
gone_slots (NewArray sites target) = target ∷ []
gone_slots (Constant site target) = target ∷ []
gone_slots (Call call) = []
gone_slots (Return value) = []
gone_slots (Throw value) = []
gone_slots (Cast class z) = []
gone_slots (Probe z) = z ∷ []

-- The slot is as before.
abbrev pub Keeps : Op → ℕ → Type 0
Keeps op z = Contains (gone_slots op) z → ⊥

-- On the way to a successor. The last two have nothing in a frame that runs.
pub data Copied (op : Op) : Root → Root → Type 0 where
  kept : {z : ℕ} → Keeps op z → Copied op (Slot z) (Slot z)
  moved : {moves : List Move} {m : Move} {y : ℕ} → op ≡ Assign moves → Contains moves m → m.source ≡ sources.Slot y → Copied op (Slot y) (Slot m.target)
  loaded : {f : FieldNo} {z : ℕ} → op ≡ LoadStatic f z → Copied op (Static f) (Slot z)
  stored : {f : FieldNo} {y : ℕ} → op ≡ StoreStatic f y → Copied op (Slot y) (Static f)
  static : {f : FieldNo} → ((y : ℕ) → op ≢ StoreStatic f y) → Copied op (Static f) (Static f)
  returned : Copied op Returned Returned
  thrown : Copied op Thrown Thrown

-- ---- calls

-- In the target's frame: each argument stands in the slot of its unit.
pub data Entered (by : Entering) : Root → Root → Type 0 where
  argument : {c : NodeCall} {unit z : ℕ} → by ≡ by_call c → slice_get c.arguments unit ≡ Some (Some z) → Entered by (Slot z) (Slot unit)
  static : {f : FieldNo} → Entered by (Static f) (Static f)

-- At a return, of the value in a slot, or of none.
pub data Exited (value : Option ℕ) : Root → Root → Type 0 where
  value : {z : ℕ} → value ≡ Some z → Exited value (Slot z) Returned
  static : {f : FieldNo} → Exited value (Static f) (Static f)
  thrown : Exited value Thrown Thrown

-- Where an object is thrown that stands in a slot, or else in the frame: in a handler, which gets it in the first slot behind the local variables; or
-- out of the method.
pub data Raised (value : Option ℕ) (handler : Option ℕ) (locals : ℕ) : Root → Root → Type 0 where
  local : {z offset : ℕ} → handler ≡ Some offset → z < locals → Raised value handler locals (Slot z) (Slot z)
  caught_value : {z offset : ℕ} → handler ≡ Some offset → value ≡ Some z → Raised value handler locals (Slot z) (Slot locals)
  caught : {offset : ℕ} → handler ≡ Some offset → value ≡ None → Raised value handler locals Thrown (Slot locals)
  thrown_value : {z : ℕ} → handler ≡ None → value ≡ Some z → Raised value handler locals (Slot z) Thrown
  thrown : handler ≡ None → value ≡ None → Raised value handler locals Thrown Thrown
  static : {f : FieldNo} → Raised value handler locals (Static f) (Static f)
  returned : Raised value handler locals Returned Returned

-- The slot is neither the call's result nor one of its arguments.
pub record IsAside (c : NodeCall) (z : ℕ) : Type 0 where
  pub no_argument : Contains (argument_slots c.arguments) z → ⊥
  pub no_result : c.result ≢ Some z

-- After a call of a described method, which gives a result.
pub data Answered (c : NodeCall) (result : Result) : Root → Root → Type 0 where
  kept : {z : ℕ} → IsAside c z → Answered c result (Slot z) (Slot z)
  given : {z target : ℕ} → result ≡ an_argument z → c.result ≡ Some target → Answered c result (Slot z) (Slot target)
  static : {f : FieldNo} → Answered c result (Static f) (Static f)
  returned : Answered c result Returned Returned
  thrown : Answered c result Thrown Thrown

-- Back in the frame that waited: static fields; and, but from an initialiser, what was returned or thrown.
pub data HandedOn (by : Entering) : Root → Root → Type 0 where
  static : {f : FieldNo} → HandedOn by (Static f) (Static f)
  returned : {c : NodeCall} → by ≡ by_call c → HandedOn by Returned Returned
  thrown : {c : NodeCall} → by ≡ by_call c → HandedOn by Thrown Thrown

-- What an initialiser returns or throws is not handed on.
pub data IsDropped (by : Entering) : Root → Type 0 where
  returned : by ≡ by_trigger → IsDropped by Returned
  thrown : by ≡ by_trigger → IsDropped by Thrown

-- The slot stays as it was while the frame waits.
abbrev pub StaysIn : Entering → ℕ → Type 0
StaysIn by z = Contains (passed by) z → ⊥

-- After the call: what was returned stands in the slot of the result.
pub data Received (c : NodeCall) : Root → Root → Type 0 where
  result : {z : ℕ} → c.result ≡ Some z → Received c Returned (Slot z)
  kept : {z : ℕ} → IsAside c z → Received c (Slot z) (Slot z)
  static : {f : FieldNo} → Received c (Static f) (Static f)
  thrown : Received c Thrown Thrown
