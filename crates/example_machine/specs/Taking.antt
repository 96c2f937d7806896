-- Public contracts rest on this module.
-- That some execution takes a step of a kind, and the kinds: what the step is, and how the state is that it leads to.
use Rattle.std.specs.Prelude.{◌≡◌, ℕ, List, [], ◌∷◌, ◌++◌, Some, slice_get}
use Rattle.jvm_model.specs.declared.site.SiteKind.{SiteKind}
use Rattle.jvm_model.specs.Programs.{Method}
use Rattle.machine_bytecode.specs.Executions.{IsExecution}
use Rattle.machine_bytecode.specs.Machine.{At, AtStart, Starts, Resumes, Wraps, Denies, Throwing, EntersEntry, Ends, Throws, Unwinds, Advances, Raises, exception_class, EntersTarget, GetsResult, GetsException, Returns, Catches}
use Rattle.machine_bytecode.specs.Objects.{Subject}
use Rattle.machine_bytecode.specs.States.{Value, elements, Object, Frame, State}

-- An execution goes from a first state to a state, and then takes a step of the kind.
pub record Takes (x : Subject) (Kind : State → State → Type 0) : Type 0 where
  pub states : List State
  pub before : State
  pub after : State
  pub run : IsExecution x (states ++ before ∷ after ∷ [])
  pub is : Kind before after

-- ---- where the newest frame stands

-- The newest frame stands at an offset, with these slots.
pub record Shows (offset : ℕ) (slots : List Value) (s : State) : Type 0 where
  pub frame : Frame
  pub below : List Frame
  pub frames : s.frames ≡ frame ∷ below
  pub there : frame.offset ≡ offset
  pub slots_are : frame.slots ≡ slots

-- It is one of a method of a name, which a class declares.
pub record RunsIn (x : Subject) (class name : List ℕ) (s : State) : Type 0 where
  pub frame : Frame
  pub below : List Frame
  pub frames : s.frames ≡ frame ∷ below
  pub number : ℕ
  pub of_frame : frame.method ≡ Some number
  pub method : Method
  pub stands : slice_get x.program.methods number ≡ Some method
  pub of_class : method.class ≡ class
  pub of_name : method.signature.name ≡ name

-- ---- what stands on the heap

-- At a place is an object of a class, from a site of a kind.
pub record HasObject (place : ℕ) (kind : SiteKind) (class : List ℕ) (s : State) : Type 0 where
  pub object : Object
  pub held : slice_get s.world.heap place ≡ Some object
  pub made : object.site.kind ≡ kind
  pub of_class : object.class ≡ class

-- An array of a class, with these elements.
pub record HasArray (place : ℕ) (class : List ℕ) (values : List Value) (s : State) : Type 0 where
  pub object : Object
  pub held : slice_get s.world.heap place ≡ Some object
  pub of_class : object.class ≡ class
  pub holds : object.contents ≡ elements values

-- An object whose automaton is in a state.
pub record InState (place state : ℕ) (s : State) : Type 0 where
  pub object : Object
  pub held : slice_get s.world.heap place ≡ Some object
  pub is : object.automaton ≡ state

-- ---- the kinds

-- An instruction of a mnemonic is executed and goes on.
pub record Advancing (x : Subject) (mnemonic : List ℕ) (s t : State) : Type 0 where
  pub at : At x.program s
  pub named : at.now.row.mnemonic ≡ mnemonic
  pub step : Advances x s t at

-- An instruction of a mnemonic raises a new exception of a class.
pub record Raising (x : Subject) (mnemonic class : List ℕ) (s t : State) : Type 0 where
  pub at : At x.program s
  pub named : at.now.row.mnemonic ≡ mnemonic
  pub step : Raises x s t at
  pub raised : exception_class step.raise ≡ class

-- ---- calls

-- A call by an instruction of a mnemonic goes to a method of a name, which a class declares and which has code.
pub record Entering (x : Subject) (mnemonic class name : List ℕ) (s t : State) : Type 0 where
  pub at : At x.program s
  pub named : at.now.row.mnemonic ≡ mnemonic
  pub step : EntersTarget x s t at
  pub target : Method
  pub stands : slice_get x.program.methods step.call.target ≡ Some target
  pub of_class : target.class ≡ class
  pub of_name : target.signature.name ≡ name

-- It goes to one that is described, and gives a result.
pub record GettingResult (x : Subject) (mnemonic class name : List ℕ) (s t : State) : Type 0 where
  pub at : At x.program s
  pub named : at.now.row.mnemonic ≡ mnemonic
  pub step : GetsResult x s t at
  pub target : Method
  pub stands : slice_get x.program.methods step.call.target ≡ Some target
  pub of_class : target.class ≡ class
  pub of_name : target.signature.name ≡ name

-- It throws.
pub record GettingException (x : Subject) (mnemonic class name : List ℕ) (s t : State) : Type 0 where
  pub at : At x.program s
  pub named : at.now.row.mnemonic ≡ mnemonic
  pub step : GetsException x s t at
  pub target : Method
  pub stands : slice_get x.program.methods step.call.target ≡ Some target
  pub of_class : target.class ≡ class
  pub of_name : target.signature.name ≡ name

-- A method returns by an instruction of a mnemonic, and its caller goes on.
pub record Returning (x : Subject) (mnemonic : List ℕ) (s t : State) : Type 0 where
  pub at : At x.program s
  pub named : at.now.row.mnemonic ≡ mnemonic
  pub step : Returns x s t at

-- The start calls the entry; and after that it returns, and the machine has ended.
pub record EnteringEntry (x : Subject) (s t : State) : Type 0 where
  pub at : AtStart s 0
  pub step : EntersEntry x s t at

pub record Ending (s t : State) : Type 0 where
  pub at : AtStart s 1
  pub step : Ends s t at

-- ---- exceptions

-- An object at a place is thrown by athrow.
pub record ThrowingObject (x : Subject) (place : ℕ) (s t : State) : Type 0 where
  pub at : At x.program s
  pub step : Throws x s t at
  pub thrown : step.thrown.to.place ≡ place

-- An object at a place, of a class, is caught by a handler of the newest frame.
pub record Catching (x : Subject) (place : ℕ) (class : List ℕ) (s t : State) : Type 0 where
  pub at : Throwing s
  pub caught : at.place ≡ place
  pub of_class : at.object.class ≡ class
  pub step : Catches x s t at

-- No handler of the newest frame catches an object at a place, and the frame goes.
pub record Unwinding (x : Subject) (place : ℕ) (s t : State) : Type 0 where
  pub at : Throwing s
  pub thrown : at.place ≡ place
  pub step : Unwinds x s t at

-- ---- initialisation

-- An initialiser starts, at a trigger for a class.
pub record Starting (x : Subject) (class : List ℕ) (s t : State) : Type 0 where
  pub step : Starts x s t
  pub of_class : step.class ≡ class

-- It returns by an instruction of a mnemonic, and the frame below runs on where it stands.
pub record Resuming (x : Subject) (mnemonic : List ℕ) (s t : State) : Type 0 where
  pub at : At x.program s
  pub named : at.now.row.mnemonic ≡ mnemonic
  pub step : Resumes x s t at

-- What leaves it, an object at a place, is wrapped.
pub record Wrapping (x : Subject) (place : ℕ) (s t : State) : Type 0 where
  pub at : Throwing s
  pub thrown : at.place ≡ place
  pub step : Wraps x s t at

-- A trigger for a class throws, since an initialiser was started.
pub record Denying (x : Subject) (class : List ℕ) (s t : State) : Type 0 where
  pub step : Denies x s t
  pub of_class : step.class ≡ class
