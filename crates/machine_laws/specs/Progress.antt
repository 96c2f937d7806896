-- Public contracts rest on this module.
-- When the machine goes on: what has to hold where a frame stands so that some step is there. It is the guard against behaviour
-- that the machine lacks.
use Rattle.std.specs.Prelude.{codes, ◌≡◌, ◌⊎◌, ℕ, ◌+◌, true, false, List, [], ◌∷◌, ◌++◌, length, Option, Some, None, slice_get, MatchBool}
use Rattle.jvm_model.specs.declared.pool.PoolEntry.{PoolEntry}
use Rattle.jvm_model.specs.declared.pool.PoolEntry.TheVariants.{Class, Str}
use Rattle.jvm_model.specs.declared.site.SiteKind.TheVariants.{New as NewAt}
use Rattle.jvm_model.specs.declared.stub.StubResult.{StubResult}
use Rattle.jvm_model.specs.declared.stub.StubResult.TheVariants.{Primitive, Void, Null, Given, New, Kept}
use Rattle.jvm_model.specs.Instructions.{HasDescriptorUnits}
use Rattle.jvm_model.specs.Lookups.{entry_at}
use Rattle.jvm_model.specs.Programs.{Field}
use Rattle.jvm_model.specs.Table.{UnitKind, Flow, onward, jump, branch, branch_if_null, branch_if_object, branch_if_same, branch_if_other, leave, subroutine, Action, plain, load_constant, load_element, store_element, probe_element, probe_array, probe_object, get_static, put_static, get_field, put_field, invoke_virtual, invoke_special, invoke_static, invoke_interface, make_object, make_array, throw_object, cast, leave_method, refused}
use Rattle.machine_bytecode.specs.Described.{DescribedMethod, IsKept, kept_by}
use Rattle.machine_bytecode.specs.Machine.{Advances, MethodCode, InCode, AtInstruction, At, NamesField, NamesMethod, NamesClass, NamesArrays, IsTarget, Throwing, Step}
use Rattle.machine_bytecode.specs.Objects.{Subject, Refers, IsOf, IsArray, IsArrayOf}
use Rattle.machine_bytecode.specs.States.{Dimension, arrays_from, site_at, with_heap, Value, primitive_value, null_value, fields, Object, Frame, throwing, World, State, is_reference_type, slot_at}

-- Some step leaves the state.
pub record GoesOn (x : Subject) (s : State) : Type 0 where
  pub next : State
  pub step : Step x s next

-- ---- operands

-- The instruction has somewhere to go: a flow that branches has a target.
abbrev pub HasTarget : List (Option ℕ) → Type 0
HasTarget targets = (target : ℕ) × (slice_get targets 0 ≡ Some (Some target))

abbrev pub HasWay : Flow → List (Option ℕ) → Type 0
HasWay onward targets = Unit {0}
HasWay jump targets = HasTarget targets
HasWay branch targets = Unit {0}
HasWay branch_if_null targets = HasTarget targets
HasWay branch_if_object targets = HasTarget targets
HasWay branch_if_same targets = HasTarget targets
HasWay branch_if_other targets = HasTarget targets
HasWay leave targets = ⊥
HasWay subroutine targets = ⊥

-- A constant of a class of which there is an object from the start.
abbrev pub HasConstant : List PoolEntry → ℕ → Type 0
HasConstant pool operand = ((text : ℕ) × (entry_at pool operand ≡ Some (Str text))) ⊎ ((name : ℕ) × (entry_at pool operand ≡ Some (Class name)))

-- An object whose fields are those of a class.
pub record HasFields (w : World) (v : Value) : Type 0 where
  pub to : Refers w v
  pub values : ℕ → Value
  pub holds : to.object.contents ≡ fields values

-- The object of an access to a field: one of a primitive type asks for any object.
abbrev pub IsHolder : Field → World → Value → Type 0
IsHolder f w v = MatchBool (is_reference_type f.signature.descriptor) (HasFields w v) (Refers w v)

-- ---- calls

-- A listed result that the description can give now: a kept object only where a fitting one is kept.
abbrev pub CanGive : (x : Subject) (number : ℕ) → DescribedMethod x number → List Value → World → StubResult → Type 0
CanGive x number d units w Primitive = Unit {0}
CanGive x number d units w Void = Unit {0}
CanGive x number d units w Null = Unit {0}
CanGive x number d units w (Given argument) = Unit {0}
CanGive x number d units w (New class) = Unit {0}
CanGive x number d units w Kept = (v : Value) × IsKept x d.stub.descriptor (kept_by x number d units w) v

-- A described method has a result to give, or an exception to throw. Its events do not matter: they change what no result asks.
pub data HasOutcome (x : Subject) (number : ℕ) (units : List Value) (w : World) : Type 0 where
  by_result : (d : DescribedMethod x number) (place : ℕ) (r : StubResult) → slice_get d.stub.returns place ≡ Some r → CanGive x number d units w r → HasOutcome x number units w
  by_exception : (d : DescribedMethod x number) (place : ℕ) (class : List ℕ) → slice_get d.stub.throws place ≡ Some class → HasOutcome x number units w

-- The target has code, or a description with an outcome.
abbrev pub CanBeCalled : Subject → ℕ → List Value → World → Type 0
CanBeCalled x target units w = MethodCode x.program target ⊎ HasOutcome x target units w

pub record IsCallable (x : Subject) (s : State) (at : At x.program s) (units : List Value) : Type 0 where
  pub names : NamesMethod x.program at.now.here.code.file.pool at.now.instruction.operand
  pub target : ℕ
  pub is_target : IsTarget at.now.row.action x.program at.now.here.code.method.class at.now.here.code.file.pool at.now.instruction.operand names s.world units target
  pub callable : CanBeCalled x target units s.world

-- ---- returns

-- The frame below goes on: it waits for no call, or stands at the instruction of one, or is that of the start.
abbrev pub CanGoOn : Subject → Frame → Type 0
CanGoOn x f = (f.waits ≡ false) ⊎ ((f.waits ≡ true) × ((f.method ≡ None) ⊎ AtInstruction x.program f))

pub record CanReturn (x : Subject) (s : State) (at : At x.program s) : Type 0 where
  pub parameters : List UnitKind
  pub results : HasDescriptorUnits at.now.here.code.method.signature.descriptor parameters at.now.row.pops
  pub caller : Frame
  pub rest : List Frame
  pub below : at.below ≡ caller ∷ rest
  pub goes_on : CanGoOn x caller

-- ---- what an instruction asks

abbrev pub IsNull : List Value → Type 0
IsNull units = slot_at units 0 ≡ null_value

-- What an instruction asks of its operands and of what it names, by its action. The actions that are refused never go on.
abbrev pub IsReady : Action → (x : Subject) (s : State) → At x.program s → List Value → Type 0
IsReady plain x s at units = HasWay at.now.row.flow at.now.instruction.targets
IsReady load_constant x s at units = HasConstant at.now.here.code.file.pool at.now.instruction.operand
IsReady load_element x s at units = IsNull units ⊎ IsArrayOf null_value s.world (slot_at units 0)
IsReady store_element x s at units = IsNull units ⊎ IsArrayOf null_value s.world (slot_at units 0)
IsReady probe_element x s at units = IsNull units ⊎ IsArrayOf primitive_value s.world (slot_at units 0)
IsReady probe_array x s at units = IsNull units ⊎ IsArray s.world (slot_at units 0)
IsReady probe_object x s at units = IsNull units ⊎ Refers s.world (slot_at units 0)
IsReady get_static x s at units = NamesField x.program at.now.here.code.file.pool at.now.instruction.operand true
IsReady put_static x s at units = NamesField x.program at.now.here.code.file.pool at.now.instruction.operand true
IsReady get_field x s at units =
    (n : NamesField x.program at.now.here.code.file.pool at.now.instruction.operand false) × (IsNull units ⊎ IsHolder n.field s.world (slot_at units 0))
IsReady put_field x s at units =
    (n : NamesField x.program at.now.here.code.file.pool at.now.instruction.operand false) × (IsNull units ⊎ IsHolder n.field s.world (slot_at units 0))
IsReady invoke_virtual x s at units = IsNull units ⊎ IsCallable x s at units
IsReady invoke_special x s at units = IsNull units ⊎ IsCallable x s at units
IsReady invoke_static x s at units = IsCallable x s at units
IsReady invoke_interface x s at units = IsNull units ⊎ IsCallable x s at units
IsReady make_object x s at units = NamesClass at.now.here.code.file.pool at.now.instruction.operand
IsReady make_array x s at units = (arrays : List (List ℕ)) × NamesArrays at.now.here.code.file.pool at.now.instruction arrays
IsReady throw_object x s at units = IsNull units ⊎ IsOf x.program (codes "java/lang/Throwable") s.world (slot_at units 0)
IsReady cast x s at units = NamesClass at.now.here.code.file.pool at.now.instruction.operand × (IsNull units ⊎ Refers s.world (slot_at units 0))
IsReady leave_method x s at units = CanReturn x s at
IsReady refused x s at units = ⊥

-- ---- what a frame asks in which an object is thrown

-- It has its local variables, or is that of the start.
pub record HasLocals (x : Subject) (f : Frame) : Type 0 where
  pub here : InCode x.program f
  pub locals : List Value
  pub operands : List Value
  pub parts : f.slots ≡ locals ++ operands
  pub long : length locals ≡ here.code.body.max_locals

abbrev pub CanCatch : Subject → Frame → Type 0
CanCatch x f = (f.method ≡ None) ⊎ HasLocals x f

-- A step makes an ExceptionInInitializerError of what is thrown, in the frame below: the new object is thrown, and the old one is kept.
pub record WrapsThrown (x : Subject) (s : State) (at : Throwing s) (caller : Frame) (rest : List Frame) : Type 0 where
  pub next : State
  pub step : Step x s next
  pub object : Object
  pub heap : next.world.heap ≡ s.world.heap ++ object ∷ []
  pub class : object.class ≡ codes "java/lang/ExceptionInInitializerError"
  pub throws : next.mode ≡ throwing (length s.world.heap)
  pub frames : next.frames ≡ caller ∷ rest
  pub kept : next.world.kept ≡ s.world.kept ++ at.place ∷ []

-- ---- what instructions on arrays may do

-- The instruction goes on to the next one, with what it made and the world after it.
pub record GoesOnward (x : Subject) (s : State) (at : At x.program s) (made : Value) (after : World) : Type 0 where
  pub next : State
  pub step : Advances x s next at
  pub made_is : step.made ≡ made
  pub world_is : step.world ≡ after
  pub next_is : step.next ≡ at.frame.offset + at.now.instruction.size

-- Arrays of some names that a frame makes, and a length for each.
abbrev pub dimensions_of : Frame → List (List ℕ) → List ℕ → List Dimension
dimensions_of f [] lengths = []
dimensions_of f (array ∷ arrays) [] = []
dimensions_of f (array ∷ arrays) (long ∷ lengths) = record { site = site_at NewAt f array; long = long } ∷ dimensions_of f arrays lengths

-- The world with new arrays of these dimensions.
abbrev pub with_arrays : Subject → World → List Dimension → World
with_arrays x w dimensions = with_heap w (w.heap ++ arrays_from x.property.initial (length w.heap) 1 dimensions)
