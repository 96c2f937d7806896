-- Public contracts rest on this module.
-- When the machine that runs nodes goes on: what has to hold where a frame stands so that some step is there. It is the guard
-- against behaviour that the machine lacks.
use Rattle.std.specs.Prelude.{codes, ◌≡◌, ◌⊎◌, ℕ, ◌≤◌, true, false, List, [], ◌∷◌, ◌++◌, length, Some, None, Ok, slice_get, Contains}
use Rattle.jvm_model.specs.declared.number.ClassNo.{ClassNo}
use Rattle.jvm_model.specs.declared.site.Site.{Site}
use Rattle.jvm_model.specs.Programs.{Program, Method}
use Rattle.jvm_model.specs.Table.{null_pointer}
use Rattle.op_model.specs.declared.lowered.LoweredMethod.{LoweredMethod}
use Rattle.op_model.specs.declared.op.Call.{Call as NodeCall}
use Rattle.op_model.specs.declared.op.Move.{Move}
use Rattle.op_model.specs.declared.op.Op.{Op}
use Rattle.op_model.specs.declared.op.Op.TheVariants.{Assign, Load, Store, LoadElement, StoreElement, LoadStatic, StoreStatic, New, NewArray, Constant, Call, Return, Throw, Cast, Probe}
use Rattle.op_model.specs.Supplies.{Given}
use Rattle.machine_bytecode.specs.Machine.{exception_class}
use Rattle.machine_bytecode.specs.Objects.{Subject, Refers, IsOf, IsArrayOf, MayStand, IsConstant, Passes}
use Rattle.machine_bytecode.specs.States.{Dimension, Value, null_value, Object, Frame, throwing, World, State, slot_at}
use Rattle.machine_nodes.specs.Nodes.{IsClassNumber, StandsAt}
use Rattle.machine_nodes.specs.NodeSteps.{AtNode, Advances, IsTargetOf, EntersTarget, GetsResult, GetsException, Returns, Starts, NodeStep}
use Rattle.machine_nodes.specs.Slots.{argument_values}
use Rattle.machine_laws.specs.Progress.{HasFields, HasOutcome}

-- Some step leaves the state.
pub record GoesOn (x : Subject) (given : Given) (s : State) : Type 0 where
  pub next : State
  pub step : NodeStep x given s next

-- A node has a successor.
abbrev pub HasSuccessor : List ℕ → Type 0
HasSuccessor successors = (next : ℕ) × Contains successors next

-- A method is given as nodes.
abbrev pub IsGiven : Given → ℕ → Type 0
IsGiven given number = (m : LoweredMethod) × (given number ≡ Some (Ok m))

-- ---- operations that go on

-- Moves to one slot have one source.
abbrev pub HaveOneSource : List Move → Type 0
HaveOneSource moves = (m n : Move) → Contains moves m → Contains moves n → m.target ≡ n.target → m.source ≡ n.source

-- An array of references that has an element.
pub record HasElement (w : World) (v : Value) : Type 0 where
  pub of : IsArrayOf null_value w v
  pub some : 1 ≤ length of.array.values

-- The value may be stored in it.
pub record TakesElement (p : Program) (w : World) (array v : Value) : Type 0 where
  pub has : HasElement w array
  pub suits : MayStand p w has.of.array.to.object.class v

-- What an operation asks of the slots so that it goes on at the node's successors. Calls, returns and throws never do.
abbrev pub CanLead : Op → Subject → World → List Value → Type 0
CanLead (Assign moves) x w slots = HaveOneSource moves
CanLead (Load object field target) x w slots = HasFields w (slot_at slots object)
CanLead (Store object field value) x w slots = HasFields w (slot_at slots object)
CanLead (LoadElement array target) x w slots = HasElement w (slot_at slots array)
CanLead (StoreElement array value) x w slots = TakesElement x.program w (slot_at slots array) (slot_at slots value)
CanLead (LoadStatic field target) x w slots = Unit {0}
CanLead (StoreStatic field value) x w slots = Unit {0}
CanLead (New site target) x w slots = Unit {0}
CanLead (NewArray sites target) x w slots = 1 ≤ length sites
CanLead (Constant site target) x w slots = (v : Value) × IsConstant site.class v
CanLead (Call call) x w slots = ⊥
CanLead (Return value) x w slots = ⊥
CanLead (Throw value) x w slots = ⊥
CanLead (Cast class slot) x w slots = Passes x.program class w (slot_at slots slot)
CanLead (Probe slot) x w slots = Refers w (slot_at slots slot)

-- The operation goes on at a successor, with the world after it.
pub record GoesTo (x : Subject) (given : Given) (s : State) (at : AtNode x given s) (successor : ℕ) (after : World) : Type 0 where
  pub next : State
  pub step : Advances x given s next at
  pub next_is : step.next ≡ successor
  pub world_is : step.world ≡ after

-- It does so with a value in a slot.
pub record GoesToWith (x : Subject) (given : Given) (s : State) (at : AtNode x given s) (successor : ℕ) (after : World) (slot : ℕ) (v : Value) : Type 0 where
  pub to : GoesTo x given s at successor after
  pub reads : slot_at to.step.left slot ≡ v

-- New arrays of some sites, and a length for each.
abbrev pub dimensions_for : List Site → List ℕ → List Dimension
dimensions_for [] lengths = []
dimensions_for (site ∷ sites) [] = []
dimensions_for (site ∷ sites) (long ∷ lengths) = record { site = site; long = long } ∷ dimensions_for sites lengths

-- ---- calls

-- The target of a call with these units.
pub record HasCallTarget (x : Subject) (w : World) (call : NodeCall) (units : List Value) : Type 0 where
  pub resolved : Method
  pub stands : slice_get x.program.methods call.resolved.0 ≡ Some resolved
  pub target : ℕ
  pub is_target : IsTargetOf call.kind x.program call resolved w units target

-- The frame is that of a method: the start calls the entry by a step of its own.
abbrev pub InMethod : Frame → Type 0
InMethod f = (number : ℕ) × (f.method ≡ Some number)

-- It is given as nodes, or has a description with an outcome.
pub record IsCallable (x : Subject) (given : Given) (w : World) (call : NodeCall) (units : List Value) (successors : List ℕ) : Type 0 where
  pub to : HasCallTarget x w call units
  pub callable : IsGiven given to.target ⊎ (HasOutcome x to.target units w × HasSuccessor successors)

-- The call enters its target, which is this one.
pub record GoesInto (x : Subject) (given : Given) (s : State) (at : AtNode x given s) (target : ℕ) : Type 0 where
  pub next : State
  pub step : EntersTarget x given s next at
  pub target_is : step.calls.target ≡ target

-- The call gives the result at a place of the target's description, and goes on at a successor.
pub record Answers (x : Subject) (given : Given) (s : State) (at : AtNode x given s) (target place successor : ℕ) : Type 0 where
  pub next : State
  pub step : GetsResult x given s next at
  pub target_is : step.calls.target ≡ target
  pub place_is : step.gives.place ≡ place
  pub next_is : step.next ≡ successor

-- The call throws the exception at a place of the target's description.
pub record Fails (x : Subject) (given : Given) (s : State) (at : AtNode x given s) (target place : ℕ) : Type 0 where
  pub next : State
  pub step : GetsException x given s next at
  pub target_is : step.calls.target ≡ target
  pub place_is : step.throws.place ≡ place

-- ---- returns

-- The frame below waits at a call that has a successor, or for an initialiser; or the frame is that of the start.
pub data CanReturn (x : Subject) (given : Given) (frame : Frame) (below : List Frame) : Type 0 where
  after_call : (caller : Frame) (rest : List Frame) → below ≡ caller ∷ rest → caller.waits ≡ true → (now : StandsAt x given caller) (call : NodeCall)
      → now.node.op ≡ Call call → HasSuccessor now.node.successors → CanReturn x given frame below
  after_initialiser : (caller : Frame) (rest : List Frame) → below ≡ caller ∷ rest → caller.waits ≡ false → CanReturn x given frame below
  of_start : frame.method ≡ None → CanReturn x given frame below

-- A return goes on at a successor of the call for which the caller waits.
pub record ReturnsTo (x : Subject) (given : Given) (s : State) (at : AtNode x given s) (successor : ℕ) : Type 0 where
  pub next : State
  pub step : Returns x given s next at
  pub next_is : step.next ≡ successor

-- ---- what an operation asks

-- The number is that of the class of null pointers, and is listed.
pub record ListsNullPointer (p : Program) (throws : List ClassNo) : Type 0 where
  pub number : ClassNo
  pub listed : Contains throws number
  pub is_class : IsClassNumber p number (exception_class null_pointer)

-- What a throw asks of the value that it throws.
abbrev pub CanThrow : Subject → World → List ClassNo → Value → Type 0
CanThrow x w throws v = IsOf x.program (codes "java/lang/Throwable") w v ⊎ ((v ≡ null_value) × ListsNullPointer x.program throws)

-- What an operation asks of the slots so that it goes on at a successor, of which there is one.
abbrev pub CanAdvance : (x : Subject) (given : Given) (s : State) → AtNode x given s → Type 0
CanAdvance x given s at = CanLead at.now.node.op x s.world at.frame.slots × HasSuccessor at.now.node.successors

-- What a node asks so that some step leaves it, by its operation.
abbrev pub IsReadyOp : Op → (x : Subject) (given : Given) (s : State) → AtNode x given s → Type 0
IsReadyOp (Assign moves) x given s at = CanAdvance x given s at
IsReadyOp (Load object field target) x given s at = CanAdvance x given s at
IsReadyOp (Store object field value) x given s at = CanAdvance x given s at
IsReadyOp (LoadElement array target) x given s at = CanAdvance x given s at
IsReadyOp (StoreElement array value) x given s at = CanAdvance x given s at
IsReadyOp (LoadStatic field target) x given s at = CanAdvance x given s at
IsReadyOp (StoreStatic field value) x given s at = CanAdvance x given s at
IsReadyOp (New site target) x given s at = CanAdvance x given s at
IsReadyOp (NewArray sites target) x given s at = CanAdvance x given s at
IsReadyOp (Constant site target) x given s at = CanAdvance x given s at
IsReadyOp (Call call) x given s at = InMethod at.frame × IsCallable x given s.world call (argument_values call.arguments at.frame.slots) at.now.node.successors
IsReadyOp (Return value) x given s at = CanReturn x given at.frame at.below
IsReadyOp (Throw value) x given s at = CanThrow x s.world at.now.node.throws (slot_at at.frame.slots value)
IsReadyOp (Cast class slot) x given s at = CanAdvance x given s at
IsReadyOp (Probe slot) x given s at = CanAdvance x given s at

-- ---- exceptions and initialisation

-- A throw raises a null pointer for null alone; all else may be raised.
abbrev pub MayRaise : Op → List Value → List ℕ → Type 0
MayRaise op slots class = (value : ℕ) → op ≡ Throw value → class ≡ exception_class null_pointer → slot_at slots value ≡ null_value

-- A step throws a new object of a class, in a frame, and these places are kept before.
pub record ThrowsOne (x : Subject) (given : Given) (s : State) (frame : Frame) (below : List Frame) (places : List ℕ) (class : List ℕ) : Type 0 where
  pub next : State
  pub step : NodeStep x given s next
  pub object : Object
  pub heap : next.world.heap ≡ s.world.heap ++ object ∷ []
  pub class_is : object.class ≡ class
  pub throws : next.mode ≡ throwing (length s.world.heap)
  pub frames : next.frames ≡ frame ∷ below
  pub kept : next.world.kept ≡ s.world.kept ++ places

-- The node starts an initialiser.
pub record StartsOne (x : Subject) (given : Given) (s : State) (at : AtNode x given s) (number : ℕ) : Type 0 where
  pub next : State
  pub step : Starts x given s next at
  pub number_is : step.number ≡ number
