-- Public contracts rest on this module.
-- What a set of facts says of the states of executions on nodes: where a reference stands, the set has the site of its object.
use Rattle.std.specs.Prelude.{◌≡◌, ◌≢◌, ◌⊎◌, ℕ, ◌+◌, ◌<◌, true, false, List, [], ◌∷◌, length, Option, Some, option_map, slice_get, Contains}
use Rattle.jvm_model.specs.declared.number.FieldNo.{FieldNo}
use Rattle.jvm_model.specs.declared.number.MethodNo.{MethodNo}
use Rattle.jvm_model.specs.declared.site.Site.{Site}
use Rattle.jvm_model.specs.Programs.{Program, Method}
use Rattle.jvm_model.specs.Soundness.{plain_descriptor}
use Rattle.least_sets.specs.Rules.{Hold}
use Rattle.op_model.specs.declared.lowered.LoweredMethod.{LoweredMethod}
use Rattle.op_model.specs.declared.node.Node.{Node}
use Rattle.op_model.specs.declared.node.NodeRef.{NodeRef}
use Rattle.op_model.specs.declared.op.Call.{Call as NodeCall}
use Rattle.op_model.specs.declared.op.Op.TheVariants.{Call}
use Rattle.op_model.specs.Supplies.{Given, GivenAs}
use Rattle.machine_bytecode.specs.Objects.{Subject, constant_classes}
use Rattle.machine_bytecode.specs.Start.{boot_classes, boot_site}
use Rattle.machine_bytecode.specs.States.{Value, primitive_value, fields, elements, Object, Frame, Mode, running, throwing, ended, World, State, slot_at}
use Rattle.machine_nodes.specs.NodeExecutions.{IsNodeExecution}
use Rattle.machine_nodes.specs.Slots.{argument_slots}
use Rattle.slot_names.specs.declared.variable.Variable.{Variable}
use Rattle.slot_names.specs.Variables.{IsVariable}
use Rattle.points_to_rules.specs.Facts.{Holder, variable, field_of, elements_of, static_field, kept_objects, Fact, may_hold, may_run, may_call}
use Rattle.points_to_rules.specs.Rules.{IsNodeOf, Lands, StartsAt, MayStart, BeginsWith, argument_site}
use Rattle.coverage.specs.References.{LeadsTo, IsCovered}
use Rattle.coverage.specs.Sites.{IsSite}

-- ---- the world

-- The holder may hold objects of the site.
abbrev pub MayHold : (Fact → Type 0) → Holder → Site → Type 0
MayHold S holder s = S (may_hold holder s)

-- The static field may hold objects of the site, or it begins with such an object: the set need not have those with which fields begin.
abbrev pub MayHoldStatic : Program → (Fact → Type 0) → FieldNo → Site → Type 0
MayHoldStatic p S field s = MayHold S (static_field field) s ⊎ ((class : List ℕ) × BeginsWith p field class × (s ≡ boot_site class))

-- An object is of a site, which has its class; and what it holds is covered.
pub record IsCoveredObject (p : Program) (gives : GivenAs) (S : Fact → Type 0) (heap : List Object) (o : Object) : Type 0 where
  pub made : IsSite p gives S o.site
  pub of_class : o.class ≡ o.site.class
  pub in_fields : (values : ℕ → Value) (field : FieldNo) → o.contents ≡ fields values → IsCovered (MayHold S (field_of o.site field)) heap (values field.0)
  pub in_elements : (values : List Value) (v : Value) → o.contents ≡ elements values → Contains values v → IsCovered (MayHold S (elements_of o.site)) heap v

-- The objects that are there from the start stay at their places: those that stand for constants, and the array of the entry's arguments.
pub record HasStartObjects (x : Subject) (heap : List Object) : Type 0 where
  pub constants : (place : ℕ) (class : List ℕ) → slice_get constant_classes place ≡ Some class → LeadsTo (λ s. s ≡ boot_site class) heap place
  pub arguments : (entry : Method) → slice_get x.program.methods x.entry ≡ Some entry → entry.signature.descriptor ≢ plain_descriptor
      → LeadsTo (λ s. s ≡ argument_site) heap (length (boot_classes x.program))

-- Each object is covered, and so are the static fields and the objects that the library keeps.
pub record IsCoveredWorld (x : Subject) (gives : GivenAs) (S : Fact → Type 0) (w : World) : Type 0 where
  pub objects : (place : ℕ) (o : Object) → slice_get w.heap place ≡ Some o → IsCoveredObject x.program gives S w.heap o
  pub statics : (field : FieldNo) → IsCovered (MayHoldStatic x.program S field) w.heap (w.statics field.0)
  pub kept : (place : ℕ) → Contains w.kept place → LeadsTo (MayHold S kept_objects) w.heap place
  pub start : HasStartObjects x w.heap

-- ---- frames

-- The frame stands at a node of a method that is given as nodes.
pub record StandsIn (gives : GivenAs) (f : Frame) (m : MethodNo) (l : LoweredMethod) (n : Node) : Type 0 where
  pub in_method : f.method ≡ Some m.0
  pub node : IsNodeOf gives m l n
  pub at : n.offset ≡ f.offset

-- It stands at some node of the method.
pub record StandsSomewhere (gives : GivenAs) (f : Frame) (m : MethodNo) : Type 0 where
  pub lowered : LoweredMethod
  pub node : Node
  pub here : StandsIn gives f m lowered node

-- The frame's method may run, and each of its slots is covered by the variable that the slot has there.
pub record IsCoveredFrame (gives : GivenAs) (S : Fact → Type 0) (heap : List Object) (f : Frame) : Type 0 where
  pub runs : (m : MethodNo) → f.method ≡ Some m.0 → S (may_run m)
  pub slots : (m : MethodNo) (l : LoweredMethod) (n : Node) (z : ℕ) (v : Variable) → StandsIn gives f m l n → z < l.slots + l.stack → IsVariable l n z v
      → IsCovered (MayHold S (variable v)) heap (slot_at f.slots z)

-- The node at which a frame stands.
abbrev pub node_at : Frame → NodeRef
node_at f = record { method = option_map (λ (number : ℕ). record { 0 = number }) f.method; offset = f.offset }

-- A frame waits at a call, whose arguments were taken.
pub record HasPassed (f : Frame) (n : Node) : Type 0 where
  pub call : NodeCall
  pub is_call : n.op ≡ Call call
  pub taken : (z : ℕ) → Contains (argument_slots call.arguments) z → slot_at f.slots z ≡ primitive_value

-- A frame waits for a call: the method of the frame above it is one of the call's targets.
pub record WaitsForCall (gives : GivenAs) (S : Fact → Type 0) (f : Frame) (called : MethodNo) : Type 0 where
  pub target : S (may_call (node_at f) called)
  pub passed : (m : MethodNo) (l : LoweredMethod) (n : Node) → StandsIn gives f m l n → HasPassed f n

-- A frame waits for an initialiser, which may be started there.
pub record WaitsForInitialiser (x : Subject) (gives : GivenAs) (S : Fact → Type 0) (f : Frame) (called : MethodNo) : Type 0 where
  pub premises : List Fact
  pub may_start : MayStart x.program gives (record { 0 = x.entry }) premises called
  pub hold : Hold S premises
  pub starts : (m : MethodNo) (l : LoweredMethod) (n : Node) → StandsIn gives f m l n → StartsAt x.program n called

-- A frame below another one, which is that of a method: so the frame from which the program is started is below all others.
pub record IsCoveredCaller (x : Subject) (gives : GivenAs) (S : Fact → Type 0) (heap : List Object) (f : Frame) (above : Option ℕ) : Type 0 where
  pub called : MethodNo
  pub is_called : above ≡ Some called.0
  pub frame : IsCoveredFrame gives S heap f
  pub stands : (m : MethodNo) → f.method ≡ Some m.0 → StandsSomewhere gives f m
  pub for_call : f.waits ≡ true → WaitsForCall gives S f called
  pub for_initialiser : f.waits ≡ false → WaitsForInitialiser x gives S f called

abbrev pub AreCoveredBelow : Subject → GivenAs → (Fact → Type 0) → List Object → List Frame → Option ℕ → Type 0
AreCoveredBelow x gives S heap [] above = Unit {0}
AreCoveredBelow x gives S heap (f ∷ below) above = IsCoveredCaller x gives S heap f above × AreCoveredBelow x gives S heap below f.method

abbrev pub AreCoveredFrames : Subject → GivenAs → (Fact → Type 0) → List Object → List Frame → Type 0
AreCoveredFrames x gives S heap [] = Unit {0}
AreCoveredFrames x gives S heap (f ∷ below) = IsCoveredFrame gives S heap f × (f.waits ≡ false) × AreCoveredBelow x gives S heap below f.method

-- ---- exceptions

-- There is an object at the place that a frame throws, and it is covered where it goes: in the slot of the handler, or in what the method throws.
pub record IsCoveredThrow (p : Program) (gives : GivenAs) (S : Fact → Type 0) (heap : List Object) (f : Frame) (place : ℕ) : Type 0 where
  pub object : Object
  pub held : slice_get heap place ≡ Some object
  pub lands : (m : MethodNo) (l : LoweredMethod) (n : Node) (to : Holder) → StandsIn gives f m l n → Lands p m l n object.class to → S (may_hold to object.site)

abbrev pub IsCoveredMode : Program → GivenAs → (Fact → Type 0) → List Object → Mode → List Frame → Type 0
IsCoveredMode p gives S heap running frames = Unit {0}
IsCoveredMode p gives S heap (throwing place) [] = Unit {0}
IsCoveredMode p gives S heap (throwing place) (f ∷ below) = IsCoveredThrow p gives S heap f place
IsCoveredMode p gives S heap ended frames = Unit {0}

-- ---- states

-- The set covers a state.
pub record Covers (x : Subject) (gives : GivenAs) (S : Fact → Type 0) (s : State) : Type 0 where
  pub world : IsCoveredWorld x gives S s.world
  pub frames : AreCoveredFrames x gives S s.world.heap s.frames
  pub mode : IsCoveredMode x.program gives S s.world.heap s.mode s.frames

-- It covers each state of each execution.
abbrev pub CoversAll : Subject → Given → GivenAs → (Fact → Type 0) → Type 0
CoversAll x given gives S = (states : List State) → IsNodeExecution x given states → (s : State) → Contains states s → Covers x gives S s
