-- Public contracts rest on this module.
-- The steps of nodes, on the states of the machine that runs bytecode. World, mode, offsets, waiting and the frames below are
-- those of its steps; each successor of a node is open, and each class of which it may throw a new object.
use Rattle.std.specs.Prelude.{codes, ◌≡◌, ◌⊎◌, ℕ, Bool, true, false, List, [], ◌∷◌, Option, Some, None, Ok, slice_get, Contains}
use Rattle.jvm_model.specs.declared.number.ClassNo.{ClassNo}
use Rattle.jvm_model.specs.Programs.{Program, Method}
use Rattle.jvm_model.specs.Subtypes.{Fits}
use Rattle.jvm_model.specs.Table.{null_pointer}
use Rattle.op_model.specs.declared.lowered.LoweredMethod.{LoweredMethod}
use Rattle.op_model.specs.declared.node.NodeHandler.{NodeHandler}
use Rattle.op_model.specs.declared.op.Call.{Call as NodeCall}
use Rattle.op_model.specs.declared.op.CallKind.{CallKind}
use Rattle.op_model.specs.declared.op.CallKind.TheVariants.{Virtual, Special, Static, Interface}
use Rattle.op_model.specs.declared.op.Op.{Op}
use Rattle.op_model.specs.declared.op.Op.TheVariants.{Assign, Load, Store, LoadElement, StoreElement, LoadStatic, StoreStatic, New, NewArray, Constant, Call, Return, Throw, Cast, Probe}
use Rattle.op_model.specs.Supplies.{Given}
use Rattle.machine_bytecode.specs.Described.{GivesResult, ThrowsListed}
use Rattle.machine_bytecode.specs.Events.{HasEvents}
use Rattle.machine_bytecode.specs.Machine.{AtStart, SelectsByObject, exception_class, ThrowsNew, Throwing, unwound, IsInitialiser}
use Rattle.machine_bytecode.specs.Objects.{Subject, Refers, IsOf, ReadsField, WritesField, ReadsElement, WritesElement, MakesObject, MakesArrays, IsConstant, Passes}
use Rattle.machine_bytecode.specs.Start.{arguments_of}
use Rattle.machine_bytecode.specs.States.{Value, primitive_value, null_value, reference_to, Frame, running, World, State, with_static, with_kept, with_started, runs_on, throws_on, ends_with, moved_to, waiting, slot_at}
use Rattle.machine_nodes.specs.Nodes.{IsClassNumber, StandsAt}
use Rattle.machine_nodes.specs.Slots.{AreMoved, AreLeft, AreSame, argument_values, argument_slots, returned_value, AreCaught}

-- The newest frame runs, at a node.
pub record AtNode (x : Subject) (given : Given) (s : State) : Type 0 where
  pub frame : Frame
  pub below : List Frame
  pub runs : s.mode ≡ running
  pub frames : s.frames ≡ frame ∷ below
  pub now : StandsAt x given frame

-- ---- operations that go on

-- A read leaves the world as it is, and its target gets the value.
pub record GetsValue (operands : List ℕ) (target : ℕ) (IsRead : Value → Type 0) (before : World) (slots left : List Value) (after : World) : Type 0 where
  pub value : Value
  pub is_read : IsRead value
  pub are_left : AreLeft operands (Some target) value slots left
  pub same : after ≡ before

-- What is made is the value of the target.
pub record GetsMade (target : ℕ) (Is : World → Value → World → Type 0) (before : World) (slots left : List Value) (after : World) : Type 0 where
  pub made : Value
  pub is_made : Is before made after
  pub are_left : AreLeft [] (Some target) made slots left

-- A write, after which no operand is left.
abbrev pub PutsValue : List ℕ → Type 0 → List Value → List Value → Type 0
PutsValue operands Written slots left = Written × AreLeft operands None primitive_value slots left

-- The slots and the world that an operation may leave. Calls, returns and throws are steps of their own.
abbrev pub Leads : Op → Subject → World → List Value → List Value → World → Type 0
Leads (Assign moves) x before slots left after = AreMoved moves slots left × (after ≡ before)
Leads (Load object field target) x before slots left after =
    GetsValue (object ∷ []) target (ReadsField before (slot_at slots object) field.0) before slots left after
Leads (Store object field value) x before slots left after =
    PutsValue (object ∷ value ∷ []) (WritesField before (slot_at slots object) field.0 (slot_at slots value) after) slots left
Leads (LoadElement array target) x before slots left after =
    GetsValue (array ∷ []) target (ReadsElement before (slot_at slots array)) before slots left after
Leads (StoreElement array value) x before slots left after =
    PutsValue (array ∷ value ∷ []) (WritesElement x.program before (slot_at slots array) (slot_at slots value) after) slots left
Leads (LoadStatic field target) x before slots left after =
    GetsValue [] target (λ v. v ≡ before.statics field.0) before slots left after
Leads (StoreStatic field value) x before slots left after =
    PutsValue (value ∷ []) (after ≡ with_static before field.0 (slot_at slots value)) slots left
Leads (New site target) x before slots left after = GetsMade target (MakesObject x site) before slots left after
Leads (NewArray sites target) x before slots left after = GetsMade target (MakesArrays x sites) before slots left after
Leads (Constant site target) x before slots left after = GetsValue [] target (IsConstant site.class) before slots left after
Leads (Call call) x before slots left after = ⊥
Leads (Return value) x before slots left after = ⊥
Leads (Throw value) x before slots left after = ⊥
Leads (Cast class slot) x before slots left after = Passes x.program class before (slot_at slots slot) × AreSame slots left × (after ≡ before)
Leads (Probe slot) x before slots left after = PutsValue (slot ∷ []) (Refers before (slot_at slots slot) × (after ≡ before)) slots left

-- It goes on at any successor.
pub record Advances (x : Subject) (given : Given) (s t : State) (at : AtNode x given s) : Type 0 where
  pub left : List Value
  pub world : World
  pub next : ℕ
  pub leads : Leads at.now.node.op x s.world at.frame.slots left world
  pub goes : Contains at.now.node.successors next
  pub after : t ≡ runs_on (moved_to at.frame next left ∷ at.below) world

-- ---- calls

-- The call selects its target by the object's class, so that it may be an event.
abbrev pub is_selecting_kind : CallKind → Bool
is_selecting_kind Virtual = true
is_selecting_kind Special = false
is_selecting_kind Static = false
is_selecting_kind Interface = true

-- The target of a call of a resolved method with these units.
abbrev pub IsTargetOf : CallKind → Program → NodeCall → Method → World → List Value → ℕ → Type 0
IsTargetOf Virtual p c m w units target = SelectsByObject p false m c.resolved.0 w units target
IsTargetOf Special p c m w units target = IsOf p m.class w (slot_at units 0) × (c.chosen ≡ Some (record { 0 = target }))
IsTargetOf Static p c m w units target = c.chosen ≡ Some (record { 0 = target })
IsTargetOf Interface p c m w units target = SelectsByObject p true m c.resolved.0 w units target

-- A call in a method: its target, and the world after its events. The call of the start is a step of its own.
pub record Calls (x : Subject) (given : Given) (s : State) (at : AtNode x given s) : Type 0 where
  pub number : ℕ
  pub in_method : at.frame.method ≡ Some number
  pub call : NodeCall
  pub is_call : at.now.node.op ≡ Call call
  pub resolved : Method
  pub stands : slice_get x.program.methods call.resolved.0 ≡ Some resolved
  pub target : ℕ
  pub is_target : IsTargetOf call.kind x.program call resolved s.world (argument_values call.arguments at.frame.slots) target
  pub world : World
  pub events : HasEvents x (is_selecting_kind call.kind) (record { name = call.name; descriptor = call.descriptor }) (argument_values call.arguments at.frame.slots) s.world world

-- A method is given as nodes, and gets a frame with these units, for which the caller waits.
pub record Enters (x : Subject) (given : Given) (number : ℕ) (units left : List Value) (caller : Frame) (below : List Frame) (w : World) (t : State) : Type 0 where
  pub method : LoweredMethod
  pub is_given : given number ≡ Some (Ok method)
  pub slots : List Value
  pub arguments : AreSame units slots
  pub after : t ≡ runs_on (record { method = Some number; offset = 0; slots = slots; waits = false } ∷ waiting caller left ∷ below) w

-- A call goes to a method that is given as nodes.
pub record EntersTarget (x : Subject) (given : Given) (s t : State) (at : AtNode x given s) : Type 0 where
  pub calls : Calls x given s at
  pub left : List Value
  pub are_left : AreLeft (argument_slots calls.call.arguments) None primitive_value at.frame.slots left
  pub enters : Enters x given calls.target (argument_values calls.call.arguments at.frame.slots) left at.frame at.below calls.world t

-- A call goes to a described method, which gives a result.
pub record GetsResult (x : Subject) (given : Given) (s t : State) (at : AtNode x given s) : Type 0 where
  pub calls : Calls x given s at
  pub value : Value
  pub world : World
  pub gives : GivesResult x calls.target at.frame (argument_values calls.call.arguments at.frame.slots) calls.world value world
  pub left : List Value
  pub are_left : AreLeft (argument_slots calls.call.arguments) calls.call.result value at.frame.slots left
  pub next : ℕ
  pub goes : Contains at.now.node.successors next
  pub after : t ≡ runs_on (moved_to at.frame next left ∷ at.below) world

-- A call goes to a described method, which throws: the caller throws, at the call.
pub record GetsException (x : Subject) (given : Given) (s t : State) (at : AtNode x given s) : Type 0 where
  pub calls : Calls x given s at
  pub thrown : ℕ
  pub world : World
  pub throws : ThrowsListed x calls.target at.frame (argument_values calls.call.arguments at.frame.slots) calls.world thrown world
  pub after : t ≡ throws_on (at.frame ∷ at.below) world thrown

-- The start calls the entry, with the arguments that are there from the start.
pub record EntersEntry (x : Subject) (given : Given) (s t : State) (at : AtStart s 0) : Type 0 where
  pub entry : Method
  pub stands : slice_get x.program.methods x.entry ≡ Some entry
  pub left : List Value
  pub are_left : AreSame at.frame.slots left
  pub enters : Enters x given x.entry (arguments_of x.program entry) left at.frame at.below s.world t

-- ---- returns

-- The caller goes on after its call, with the result.
pub record Returns (x : Subject) (given : Given) (s t : State) (at : AtNode x given s) : Type 0 where
  pub value : Option ℕ
  pub is_return : at.now.node.op ≡ Return value
  pub caller : Frame
  pub rest : List Frame
  pub below : at.below ≡ caller ∷ rest
  pub called : caller.waits ≡ true
  pub caller_at : StandsAt x given caller
  pub call : NodeCall
  pub is_call : caller_at.node.op ≡ Call call
  pub left : List Value
  pub are_left : AreLeft [] call.result (returned_value value at.frame.slots) caller.slots left
  pub next : ℕ
  pub goes : Contains caller_at.node.successors next
  pub after : t ≡ runs_on (moved_to caller next left ∷ rest) s.world

-- An initialiser returns, and the frame that triggered it runs on at the same node.
pub record Resumes (x : Subject) (given : Given) (s t : State) (at : AtNode x given s) : Type 0 where
  pub value : Option ℕ
  pub is_return : at.now.node.op ≡ Return value
  pub caller : Frame
  pub rest : List Frame
  pub below : at.below ≡ caller ∷ rest
  pub triggered : caller.waits ≡ false
  pub after : t ≡ runs_on (caller ∷ rest) s.world

-- The start returns, and the machine has ended.
pub record Ends (x : Subject) (given : Given) (s t : State) (at : AtNode x given s) : Type 0 where
  pub value : Option ℕ
  pub is_return : at.now.node.op ≡ Return value
  pub no_method : at.frame.method ≡ None
  pub after : t ≡ ends_with s.world

-- ---- exceptions

-- A new object of a listed class is thrown. A throw raises for null alone.
pub record Raises (x : Subject) (given : Given) (s t : State) (at : AtNode x given s) : Type 0 where
  pub number : ClassNo
  pub listed : Contains at.now.node.throws number
  pub class : List ℕ
  pub is_class : IsClassNumber x.program number class
  pub of_null : (value : ℕ) → at.now.node.op ≡ Throw value → class ≡ exception_class null_pointer → slot_at at.frame.slots value ≡ null_value
  pub throws : ThrowsNew x s.world at.frame at.below class t

-- The object in the slot is thrown.
pub record Throws (x : Subject) (given : Given) (s t : State) (at : AtNode x given s) : Type 0 where
  pub value : ℕ
  pub is_throw : at.now.node.op ≡ Throw value
  pub thrown : IsOf x.program (codes "java/lang/Throwable") s.world (slot_at at.frame.slots value)
  pub after : t ≡ throws_on (at.frame ∷ at.below) s.world thrown.to.place

-- A handler takes an object of a class if it has no type, or one that the object fits.
pub data Takes (p : Program) (h : NodeHandler) (class : List ℕ) : Type 0 where
  all : h.catch ≡ None → Takes p h class
  fitting : (number : ClassNo) (name : List ℕ) → h.catch ≡ Some number → IsClassNumber p number name → Fits p name class → Takes p h class

-- The first handler that takes it.
abbrev pub IsFirstTaking : Program → List ℕ → List NodeHandler → NodeHandler → Type 0
IsFirstTaking p class [] h = ⊥
IsFirstTaking p class (g ∷ handlers) h = (Takes p g class × (h ≡ g)) ⊎ ((Takes p g class → ⊥) × IsFirstTaking p class handlers h)

-- The handler gets the local variables and the thrown object.
pub record Catches (x : Subject) (given : Given) (s t : State) (at : Throwing s) : Type 0 where
  pub now : StandsAt x given at.frame
  pub handler : NodeHandler
  pub first : IsFirstTaking x.program at.object.class now.node.handlers handler
  pub left : List Value
  pub are_caught : AreCaught now.locals (reference_to at.place) at.frame.slots left
  pub after : t ≡ runs_on (moved_to at.frame handler.target left ∷ at.below) s.world

-- No handler of the frame's node takes the object.
pub record IsUncaught (x : Subject) (given : Given) (f : Frame) (class : List ℕ) : Type 0 where
  pub now : StandsAt x given f
  pub none : (h : NodeHandler) → Contains now.node.handlers h → Takes x.program h class → ⊥

-- The frame goes, and the caller throws at its call.
pub record Unwinds (x : Subject) (given : Given) (s t : State) (at : Throwing s) : Type 0 where
  pub uncaught : IsUncaught x given at.frame at.object.class
  pub after : t ≡ unwound at.below s.world at.place

-- ---- initialisation

-- At a trigger an initialiser that was not started may be started. The frame waits at the same node.
pub record Starts (x : Subject) (given : Given) (s t : State) (at : AtNode x given s) : Type 0 where
  pub trigger : ClassNo
  pub is_trigger : at.now.node.trigger ≡ Some trigger
  pub class : List ℕ
  pub is_class : IsClassNumber x.program trigger class
  pub number : ℕ
  pub initialiser : IsInitialiser x.program class number
  pub fresh : Contains s.world.started number → ⊥
  pub method : LoweredMethod
  pub is_given : given number ≡ Some (Ok method)
  pub slots : List Value
  pub empty : AreSame [] slots
  pub after : t ≡ runs_on (record { method = Some number; offset = 0; slots = slots; waits = false } ∷ at.frame ∷ at.below) (with_started s.world number)

-- What leaves an initialiser may be kept, and become a new ExceptionInInitializerError, which the waiting node lists.
pub record Wraps (x : Subject) (given : Given) (s t : State) (at : Throwing s) : Type 0 where
  pub uncaught : IsUncaught x given at.frame at.object.class
  pub caller : Frame
  pub rest : List Frame
  pub below : at.below ≡ caller ∷ rest
  pub triggered : caller.waits ≡ false
  pub caller_at : StandsAt x given caller
  pub number : ClassNo
  pub listed : Contains caller_at.node.throws number
  pub is_class : IsClassNumber x.program number (codes "java/lang/ExceptionInInitializerError")
  pub throws : ThrowsNew x (with_kept s.world (at.place ∷ [])) caller rest (codes "java/lang/ExceptionInInitializerError") t

-- ---- the step

pub data NodeStep (x : Subject) (given : Given) (s t : State) : Type 0 where
  advances : (at : AtNode x given s) → Advances x given s t at → NodeStep x given s t
  enters : (at : AtNode x given s) → EntersTarget x given s t at → NodeStep x given s t
  gets_result : (at : AtNode x given s) → GetsResult x given s t at → NodeStep x given s t
  gets_exception : (at : AtNode x given s) → GetsException x given s t at → NodeStep x given s t
  enters_entry : (at : AtStart s 0) → EntersEntry x given s t at → NodeStep x given s t
  returns : (at : AtNode x given s) → Returns x given s t at → NodeStep x given s t
  resumes : (at : AtNode x given s) → Resumes x given s t at → NodeStep x given s t
  ends : (at : AtNode x given s) → Ends x given s t at → NodeStep x given s t
  raises : (at : AtNode x given s) → Raises x given s t at → NodeStep x given s t
  throws : (at : AtNode x given s) → Throws x given s t at → NodeStep x given s t
  catches : (at : Throwing s) → Catches x given s t at → NodeStep x given s t
  unwinds : (at : Throwing s) → Unwinds x given s t at → NodeStep x given s t
  starts : (at : AtNode x given s) → Starts x given s t at → NodeStep x given s t
  wraps : (at : Throwing s) → Wraps x given s t at → NodeStep x given s t
