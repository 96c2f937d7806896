-- Public contracts rest on this module.
-- The rules of what may be held, of what may run and of what may be called: from the premises of an instance its conclusion follows. The
-- least sets that are closed under them are the answer of the analysis. Each rule of a node has as its first premise that the node's method
-- may run; a method that is refused has no nodes, and so leads to nothing.
use Rattle.std.specs.Prelude.{codes, ◌≡◌, ◌≢◌, ℕ, ◌+◌, ◌<◌, List, [], ◌∷◌, Some, None, Ok, slice_get, Contains, IsTrue}
use Rattle.jvm_model.specs.declared.number.ClassNo.{ClassNo}
use Rattle.jvm_model.specs.declared.number.FieldNo.{FieldNo}
use Rattle.jvm_model.specs.declared.number.MethodNo.{MethodNo}
use Rattle.jvm_model.specs.declared.site.Site.{Site}
use Rattle.jvm_model.specs.declared.site.SiteKind.{SiteKind}
use Rattle.jvm_model.specs.declared.site.SiteKind.TheVariants as kinds
use Rattle.jvm_model.specs.declared.stub.StubArgument.{StubArgument}
use Rattle.jvm_model.specs.declared.stub.StubMethod.{StubMethod}
use Rattle.jvm_model.specs.declared.stub.StubResult.TheVariants as results
use Rattle.jvm_model.specs.Programs.{Program, Class, Field, Method}
use Rattle.jvm_model.specs.Soundness.{plain_descriptor}
use Rattle.jvm_model.specs.Stubs.{result_class}
use Rattle.jvm_model.specs.Subtypes.{Fits, array_of, class_named, reference_descriptor}
use Rattle.op_model.specs.declared.lowered.LoweredMethod.{LoweredMethod}
use Rattle.op_model.specs.declared.node.Node.{Node}
use Rattle.op_model.specs.declared.node.NodeHandler.{NodeHandler}
use Rattle.op_model.specs.declared.node.NodeRef.{NodeRef}
use Rattle.op_model.specs.declared.op.Call.{Call as NodeCall}
use Rattle.op_model.specs.declared.op.Op.TheVariants.{Load, Store, LoadElement, StoreElement, LoadStatic, StoreStatic, New, NewArray, Constant, Call, Return, Throw, Cast}
use Rattle.op_model.specs.Supplies.{GivenAs}
use Rattle.machine_bytecode.specs.Objects.{string_name}
use Rattle.machine_bytecode.specs.Start.{boot_site}
use Rattle.machine_nodes.specs.Nodes.{IsClassNumber, IsCodedInitialiser}
use Rattle.machine_nodes.specs.NodeSteps.{Takes, IsFirstTaking}
use Rattle.slot_names.specs.declared.variable.Variable.{Variable}
use Rattle.slot_names.specs.declared.variable.Variable.TheVariants.{Parameter}
use Rattle.slot_names.specs.Variables.{keeps, moves, effect_on, IsPredecessor, IsFirstNode, IsVariable}
use Rattle.points_to_rules.specs.Facts.{Holder, variable, field_of, elements_of, static_field, kept_objects, returned_by, thrown_by, Fact, may_hold, may_run, may_call}
use Rattle.points_to_rules.specs.Calls.{SelectsFor, MayPass, MayBeGiven, IsOfFile, IsDescribedBy, IsUnitOf}

-- ---- nodes and their slots

-- A node of a method that is given as nodes.
pub record IsNodeOf (gives : GivenAs) (m : MethodNo) (l : LoweredMethod) (n : Node) : Type 0 where
  pub given : gives m.0 (Ok l)
  pub stands : Contains l.nodes n

abbrev pub node_of : MethodNo → Node → NodeRef
node_of m n = record { method = Some m; offset = n.offset }

-- What a node allocates of a class.
abbrev pub site_of : SiteKind → MethodNo → Node → List ℕ → Site
site_of kind m n class = record { kind = kind; method = Some m; offset = n.offset; class = class }

-- The holder of a slot at a node: its variable.
pub record IsSlot (l : LoweredMethod) (n : Node) (z : ℕ) (h : Holder) : Type 0 where
  pub name : Variable
  pub named : IsVariable l n z name
  pub is : h ≡ variable name

-- The holder of a slot at a node to which this one leads.
pub record IsSlotAfter (l : LoweredMethod) (n : Node) (z : ℕ) (h : Holder) : Type 0 where
  pub next : Node
  pub stands : Contains l.nodes next
  pub leads : IsPredecessor l n next
  pub slot : IsSlot l next z h

-- The holder of a slot at the node where a handler begins.
pub record IsSlotAt (l : LoweredMethod) (offset z : ℕ) (h : Holder) : Type 0 where
  pub node : Node
  pub stands : Contains l.nodes node
  pub at : node.offset ≡ offset
  pub slot : IsSlot l node z h

-- ---- exceptions

-- Where an object of a class goes that is thrown at a node: to the first unit of the stack at the first handler that takes it, or else out of
-- the method (JVMS 2.10).
pub data Lands (p : Program) (m : MethodNo) (l : LoweredMethod) (n : Node) (class : List ℕ) (h : Holder) : Type 0 where
  caught : (handler : NodeHandler) → IsFirstTaking p class n.handlers handler → IsSlotAt l handler.target l.slots h → Lands p m l n class h
  uncaught : ((handler : NodeHandler) → Contains n.handlers handler → Takes p handler class → ⊥) → h ≡ thrown_by m → Lands p m l n class h

-- ---- initialisation (JVMS 5.5)

-- The node may start the initialiser.
pub record StartsAt (p : Program) (n : Node) (i : MethodNo) : Type 0 where
  pub trigger : ClassNo
  pub is_trigger : n.trigger ≡ Some trigger
  pub class : List ℕ
  pub is_class : IsClassNumber p trigger class
  pub initialiser : IsCodedInitialiser p class i.0

-- The initialiser may be started: before the entry runs, or at a node of a method that may run.
pub data MayStart (p : Program) (gives : GivenAs) (entry : MethodNo) (premises : List Fact) (i : MethodNo) : Type 0 where
  before_entry : (method : Method) → slice_get p.methods entry.0 ≡ Some method → IsCodedInitialiser p method.class i.0 → premises ≡ []
      → MayStart p gives entry premises i
  at_node : (m : MethodNo) (l : LoweredMethod) (n : Node) → IsNodeOf gives m l n → StartsAt p n i → premises ≡ may_run m ∷ []
      → MayStart p gives entry premises i

-- ---- the start

-- The call of the entry.
abbrev pub start_call : NodeRef
start_call = record { method = None; offset = 0 }

-- The entry has a parameter, an array of strings, unless its descriptor is ()V.
pub record HasArguments (p : Program) (entry : MethodNo) : Type 0 where
  pub method : Method
  pub stands : slice_get p.methods entry.0 ≡ Some method
  pub some : method.signature.descriptor ≢ plain_descriptor

abbrev pub argument_site : Site
argument_site = boot_site (array_of string_name)

-- A static field may hold an object of a class from the start: the one that its stub names, or, where it is a String of a class of the
-- folder, a constant (JVMS 4.7.2).
pub data BeginsWith (p : Program) (number : FieldNo) (class : List ℕ) : Type 0 where
  holding : (f : Field) → slice_get p.fields number.0 ≡ Some f → f.holds ≡ Some class → BeginsWith p number class
  constant : (f : Field) (c : Class) → slice_get p.fields number.0 ≡ Some f → f.holds ≡ None → f.signature.descriptor ≡ reference_descriptor string_name
      → class_named p f.class ≡ Some c → IsTrue c.is_folder → class ≡ string_name → BeginsWith p number class

-- ---- calls of described methods

-- An object of the site may be what the stub names as an argument, at a call of a node.
pub record IsArgument (p : Program) (l : LoweredMethod) (n : Node) (c : NodeCall) (target : MethodNo) (stub : StubMethod) (argument : StubArgument) (h : Holder) (s : Site) : Type 0 where
  pub unit : ℕ
  pub is_unit : IsUnitOf stub argument unit
  pub z : ℕ
  pub passed : slice_get c.arguments unit ≡ Some (Some z)
  pub slot : IsSlot l n z h
  pub suits : MayBeGiven c.kind p c.resolved s target unit

-- ---- the rules

pub data Instance (p : Program) (gives : GivenAs) (entry : MethodNo) : List Fact → Fact → Type 0 where
  -- The entry runs, called from the start, with an array of strings.
  entry_runs : Instance p gives entry [] (may_run entry)
  entry_called : Instance p gives entry [] (may_call start_call entry)
  entry_argument : HasArguments p entry → Instance p gives entry [] (may_hold (variable (Parameter entry 0)) argument_site)
  entry_strings : HasArguments p entry → Instance p gives entry [] (may_hold (elements_of argument_site) (boot_site string_name))
  -- What a slot holds that a node leaves or moves, it holds at the node's successors.
  keep : (m : MethodNo) (l : LoweredMethod) (n : Node) (z : ℕ) (from to : Holder) (s : Site) → IsNodeOf gives m l n → z < l.slots + l.stack → effect_on z n.op ≡ keeps
      → IsSlot l n z from → IsSlotAfter l n z to → Instance p gives entry (may_run m ∷ may_hold from s ∷ []) (may_hold to s)
  move : (m : MethodNo) (l : LoweredMethod) (n : Node) (y z : ℕ) (from to : Holder) (s : Site) → IsNodeOf gives m l n → z < l.slots + l.stack → effect_on z n.op ≡ moves y
      → IsSlot l n y from → IsSlotAfter l n z to → Instance p gives entry (may_run m ∷ may_hold from s ∷ []) (may_hold to s)
  -- What a parameter holds, its slot holds at the first node.
  enter : (m : MethodNo) (l : LoweredMethod) (n : Node) (z : ℕ) (to : Holder) (s : Site) → IsNodeOf gives m l n → IsFirstNode l n
      → z < l.slots + l.stack → IsSlot l n z to → Instance p gives entry (may_run m ∷ may_hold (variable (Parameter m z)) s ∷ []) (may_hold to s)
  -- What a local variable holds at a node, it holds at each handler that covers the node.
  handle : (m : MethodNo) (l : LoweredMethod) (n : Node) (handler : NodeHandler) (z : ℕ) (from to : Holder) (s : Site) → IsNodeOf gives m l n
      → Contains n.handlers handler → z < l.slots → IsSlot l n z from → IsSlotAt l handler.target z to
      → Instance p gives entry (may_run m ∷ may_hold from s ∷ []) (may_hold to s)
  -- What is loaded, made or cast, the target holds at the node's successors.
  load : (m : MethodNo) (l : LoweredMethod) (n : Node) (object target : ℕ) (field : FieldNo) (from to : Holder) (base s : Site) → IsNodeOf gives m l n
      → n.op ≡ Load object field target → IsSlot l n object from → IsSlotAfter l n target to
      → Instance p gives entry (may_run m ∷ may_hold from base ∷ may_hold (field_of base field) s ∷ []) (may_hold to s)
  load_element : (m : MethodNo) (l : LoweredMethod) (n : Node) (array target : ℕ) (from to : Holder) (base s : Site) → IsNodeOf gives m l n
      → n.op ≡ LoadElement array target → IsSlot l n array from → IsSlotAfter l n target to
      → Instance p gives entry (may_run m ∷ may_hold from base ∷ may_hold (elements_of base) s ∷ []) (may_hold to s)
  load_static : (m : MethodNo) (l : LoweredMethod) (n : Node) (target : ℕ) (field : FieldNo) (to : Holder) (s : Site) → IsNodeOf gives m l n
      → n.op ≡ LoadStatic field target → IsSlotAfter l n target to
      → Instance p gives entry (may_run m ∷ may_hold (static_field field) s ∷ []) (may_hold to s)
  make : (m : MethodNo) (l : LoweredMethod) (n : Node) (target : ℕ) (to : Holder) (s : Site) → IsNodeOf gives m l n
      → n.op ≡ New s target → IsSlotAfter l n target to → Instance p gives entry (may_run m ∷ []) (may_hold to s)
  make_array : (m : MethodNo) (l : LoweredMethod) (n : Node) (sites : List Site) (target : ℕ) (to : Holder) (s : Site) → IsNodeOf gives m l n
      → n.op ≡ NewArray sites target → slice_get sites 0 ≡ Some s → IsSlotAfter l n target to → Instance p gives entry (may_run m ∷ []) (may_hold to s)
  get_constant : (m : MethodNo) (l : LoweredMethod) (n : Node) (target : ℕ) (to : Holder) (s : Site) → IsNodeOf gives m l n
      → n.op ≡ Constant s target → IsSlotAfter l n target to → Instance p gives entry (may_run m ∷ []) (may_hold to s)
  cast : (m : MethodNo) (l : LoweredMethod) (n : Node) (class : List ℕ) (slot : ℕ) (from to : Holder) (s : Site) → IsNodeOf gives m l n
      → n.op ≡ Cast class slot → IsSlot l n slot from → IsSlotAfter l n slot to → Fits p class s.class
      → Instance p gives entry (may_run m ∷ may_hold from s ∷ []) (may_hold to s)
  -- What is stored, the field, the elements or the static field hold; an array holds the next one that is made with it; and a static field
  -- that is loaded holds what it begins with.
  store : (m : MethodNo) (l : LoweredMethod) (n : Node) (object value : ℕ) (field : FieldNo) (into from : Holder) (base s : Site) → IsNodeOf gives m l n
      → n.op ≡ Store object field value → IsSlot l n object into → IsSlot l n value from
      → Instance p gives entry (may_run m ∷ may_hold into base ∷ may_hold from s ∷ []) (may_hold (field_of base field) s)
  store_element : (m : MethodNo) (l : LoweredMethod) (n : Node) (array value : ℕ) (into from : Holder) (base s : Site) → IsNodeOf gives m l n
      → n.op ≡ StoreElement array value → IsSlot l n array into → IsSlot l n value from
      → Instance p gives entry (may_run m ∷ may_hold into base ∷ may_hold from s ∷ []) (may_hold (elements_of base) s)
  store_static : (m : MethodNo) (l : LoweredMethod) (n : Node) (value : ℕ) (field : FieldNo) (from : Holder) (s : Site) → IsNodeOf gives m l n
      → n.op ≡ StoreStatic field value → IsSlot l n value from
      → Instance p gives entry (may_run m ∷ may_hold from s ∷ []) (may_hold (static_field field) s)
  nest : (m : MethodNo) (l : LoweredMethod) (n : Node) (sites : List Site) (target i : ℕ) (outer inner : Site) → IsNodeOf gives m l n
      → n.op ≡ NewArray sites target → slice_get sites i ≡ Some outer → slice_get sites (i + 1) ≡ Some inner
      → Instance p gives entry (may_run m ∷ []) (may_hold (elements_of outer) inner)
  begin_static : (m : MethodNo) (l : LoweredMethod) (n : Node) (target : ℕ) (field : FieldNo) (class : List ℕ) → IsNodeOf gives m l n
      → n.op ≡ LoadStatic field target → BeginsWith p field class
      → Instance p gives entry (may_run m ∷ []) (may_hold (static_field field) (boot_site class))
  -- A call goes to its chosen target, or to the one that an object of its first argument selects. The target runs, and its parameters hold what
  -- is passed.
  call_chosen : (m : MethodNo) (l : LoweredMethod) (n : Node) (c : NodeCall) (target : MethodNo) → IsNodeOf gives m l n
      → n.op ≡ Call c → c.chosen ≡ Some target → Instance p gives entry (may_run m ∷ []) (may_call (node_of m n) target)
  call_selected : (m : MethodNo) (l : LoweredMethod) (n : Node) (c : NodeCall) (z : ℕ) (from : Holder) (s : Site) (target : MethodNo) → IsNodeOf gives m l n
      → n.op ≡ Call c → slice_get c.arguments 0 ≡ Some (Some z) → IsSlot l n z from → SelectsFor c.kind p c.resolved s (Ok target.0)
      → Instance p gives entry (may_run m ∷ may_hold from s ∷ []) (may_call (node_of m n) target)
  target_runs : (call : NodeRef) (target : MethodNo) → Instance p gives entry (may_call call target ∷ []) (may_run target)
  pass : (m : MethodNo) (l : LoweredMethod) (n : Node) (c : NodeCall) (target : MethodNo) (unit z : ℕ) (from : Holder) (s : Site) → IsNodeOf gives m l n
      → n.op ≡ Call c → slice_get c.arguments unit ≡ Some (Some z) → IsSlot l n z from → MayPass c.kind p c.resolved s target unit
      → Instance p gives entry (may_run m ∷ may_call (node_of m n) target ∷ may_hold from s ∷ []) (may_hold (variable (Parameter target unit)) s)
  -- What a method of a class file returns, the result of the call holds.
  return : (m : MethodNo) (l : LoweredMethod) (n : Node) (value : ℕ) (from : Holder) (s : Site) → IsNodeOf gives m l n
      → n.op ≡ Return (Some value) → IsSlot l n value from → Instance p gives entry (may_run m ∷ may_hold from s ∷ []) (may_hold (returned_by m) s)
  receive : (m : MethodNo) (l : LoweredMethod) (n : Node) (c : NodeCall) (target : MethodNo) (z : ℕ) (to : Holder) (s : Site) → IsNodeOf gives m l n
      → n.op ≡ Call c → c.result ≡ Some z → IsOfFile p target → IsSlotAfter l n z to
      → Instance p gives entry (may_run m ∷ may_call (node_of m n) target ∷ may_hold (returned_by target) s ∷ []) (may_hold to s)
  -- A described method keeps some of its arguments, and its result is one of those that it lists.
  keep_argument : (m : MethodNo) (l : LoweredMethod) (n : Node) (c : NodeCall) (target : MethodNo) (stub : StubMethod) (argument : StubArgument) (from : Holder) (s : Site)
      → IsNodeOf gives m l n → n.op ≡ Call c → IsDescribedBy p target stub → Contains stub.keeps argument → IsArgument p l n c target stub argument from s
      → Instance p gives entry (may_run m ∷ may_call (node_of m n) target ∷ may_hold from s ∷ []) (may_hold kept_objects s)
  give_argument : (m : MethodNo) (l : LoweredMethod) (n : Node) (c : NodeCall) (target : MethodNo) (stub : StubMethod) (argument : StubArgument) (from : Holder) (s : Site) (z : ℕ) (to : Holder)
      → IsNodeOf gives m l n → n.op ≡ Call c → IsDescribedBy p target stub → Contains stub.returns (results.Given argument) → IsArgument p l n c target stub argument from s
      → c.result ≡ Some z → IsSlotAfter l n z to
      → Instance p gives entry (may_run m ∷ may_call (node_of m n) target ∷ may_hold from s ∷ []) (may_hold to s)
  give_new : (m : MethodNo) (l : LoweredMethod) (n : Node) (c : NodeCall) (target : MethodNo) (stub : StubMethod) (class : List ℕ) (z : ℕ) (to : Holder)
      → IsNodeOf gives m l n → n.op ≡ Call c → IsDescribedBy p target stub → Contains stub.returns (results.New class)
      → c.result ≡ Some z → IsSlotAfter l n z to
      → Instance p gives entry (may_run m ∷ may_call (node_of m n) target ∷ []) (may_hold to (site_of kinds.Result m n class))
  give_kept : (m : MethodNo) (l : LoweredMethod) (n : Node) (c : NodeCall) (target : MethodNo) (stub : StubMethod) (class : List ℕ) (s : Site) (z : ℕ) (to : Holder)
      → IsNodeOf gives m l n → n.op ≡ Call c → IsDescribedBy p target stub → Contains stub.returns results.Kept → result_class stub.descriptor ≡ Some class
      → Fits p class s.class → c.result ≡ Some z → IsSlotAfter l n z to
      → Instance p gives entry (may_run m ∷ may_call (node_of m n) target ∷ may_hold kept_objects s ∷ []) (may_hold to s)
  -- A throw, a node's own exception, and what a target or an initialiser throws: it goes to a handler, or out of the method.
  throw : (m : MethodNo) (l : LoweredMethod) (n : Node) (value : ℕ) (from to : Holder) (s : Site) → IsNodeOf gives m l n
      → n.op ≡ Throw value → IsSlot l n value from → Fits p (codes "java/lang/Throwable") s.class → Lands p m l n s.class to
      → Instance p gives entry (may_run m ∷ may_hold from s ∷ []) (may_hold to s)
  raise : (m : MethodNo) (l : LoweredMethod) (n : Node) (number : ClassNo) (class : List ℕ) (to : Holder) → IsNodeOf gives m l n
      → Contains n.throws number → IsClassNumber p number class → Lands p m l n class to
      → Instance p gives entry (may_run m ∷ []) (may_hold to (site_of kinds.Thrown m n class))
  target_throws : (m : MethodNo) (l : LoweredMethod) (n : Node) (c : NodeCall) (target : MethodNo) (to : Holder) (s : Site) → IsNodeOf gives m l n
      → n.op ≡ Call c → IsOfFile p target → Lands p m l n s.class to
      → Instance p gives entry (may_run m ∷ may_call (node_of m n) target ∷ may_hold (thrown_by target) s ∷ []) (may_hold to s)
  described_throws : (m : MethodNo) (l : LoweredMethod) (n : Node) (c : NodeCall) (target : MethodNo) (stub : StubMethod) (class : List ℕ) (to : Holder)
      → IsNodeOf gives m l n → n.op ≡ Call c → IsDescribedBy p target stub → Contains stub.throws class → Lands p m l n class to
      → Instance p gives entry (may_run m ∷ may_call (node_of m n) target ∷ []) (may_hold to (site_of kinds.Thrown m n class))
  initialiser_throws : (m : MethodNo) (l : LoweredMethod) (n : Node) (i : MethodNo) (to : Holder) (s : Site) → IsNodeOf gives m l n
      → StartsAt p n i → Lands p m l n s.class to
      → Instance p gives entry (may_run m ∷ may_hold (thrown_by i) s ∷ []) (may_hold to s)
  -- An initialiser that may be started runs, and what it throws may be kept.
  initialiser_runs : (premises : List Fact) (i : MethodNo) → MayStart p gives entry premises i → Instance p gives entry premises (may_run i)
  keep_thrown : (premises : List Fact) (i : MethodNo) (s : Site) → MayStart p gives entry premises i
      → Instance p gives entry (may_hold (thrown_by i) s ∷ premises) (may_hold kept_objects s)
