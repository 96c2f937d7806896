-- The shape of the states that executions reach: where each frame stands, and how many slots it has.
use Rattle.std.proofs.Common.{◌≡◌, ℕ, ◌+◌, true, false, List, [], ◌∷◌, length, Option, Some, None, sym, ◌∙◌, subst}
use Rattle.std.specs.Bool.{IsTrue}
use Rattle.std.specs.List.{slice_get}
use Rattle.std.proofs.lemmas.Option.{none-some, same_Some}
use Rattle.jvm_model.specs.declared.code.Code.{Code}
use Rattle.jvm_model.specs.Instructions.{HasDescriptorUnits, member_at}
use Rattle.jvm_model.specs.Lookups.{MemberReference}
use Rattle.jvm_model.specs.Programs.{Method, Program}
use Rattle.jvm_model.specs.Table.{UnitKind, is_call, is_trigger}
use Rattle.flow_graph.specs.Graphing.{HasStep}
use Rattle.op_model.specs.declared.lowered.LoweredMethod.{LoweredMethod}
use Rattle.machine_bytecode.specs.Machine.{AtInstruction, Concerns}
use Rattle.machine_bytecode.specs.Objects.{Subject}
use Rattle.machine_bytecode.specs.States.{Frame, Mode, running, throwing, ended, State}
use Rattle.machine_nodes.specs.Nodes.{HasInitialiser}
use Rattle.simulation.proofs.Known.{LoweredCode}

-- An offset of a method is that of a step of its graph, of a height for which something holds: whatever code it has.
abbrev pub Stands : Program → ℕ → ℕ → (Code → ℕ → Type 0) → Type 0
Stands p number offset Holds = (l : LoweredMethod) (lc : LoweredCode p number l) → (height : ℕ) × HasStep lc.graph.steps offset height × Holds lc.code height

-- so many slots are the local variables and the units of the stack
abbrev pub IsFull : ℕ → Code → ℕ → Type 0
IsFull count code height = count ≡ code.max_locals + height

abbrev pub IsAny : Code → ℕ → Type 0
IsAny code height = Unit {0}

-- A frame that runs: that of the start, or one of a method, with its local variables and the units of its step.
pub data RunsAt (p : Program) (f : Frame) : Type 0 where
  in_start : f.method ≡ None → RunsAt p f
  in_code : (number : ℕ) → f.method ≡ Some number → Stands p number f.offset (IsFull (length f.slots)) → RunsAt p f

pub record FitsRunning (p : Program) (f : Frame) : Type 0 where
  pub awake : f.waits ≡ false
  pub place : RunsAt p f

-- One that throws stands at a step.
pub data FitsThrowing (p : Program) (f : Frame) : Type 0 where
  at_start : f.method ≡ None → f.offset ≡ 0 → FitsThrowing p f
  at_step : (number : ℕ) → f.method ≡ Some number → Stands p number f.offset IsAny → FitsThrowing p f

-- The method of the frame above has the descriptor that a call names.
abbrev pub HasDescriptor : Program → Option ℕ → List ℕ → Type 0
HasDescriptor p callee descriptor = (number : ℕ) (m : Method) → callee ≡ Some number → slice_get p.methods number ≡ Some m → m.signature.descriptor ≡ descriptor

-- One that waits for a call has its slots without the arguments.
pub data Calling (p : Program) (callee : Option ℕ) (f : Frame) : Type 0 where
  from_start : f.method ≡ None → f.offset ≡ 0
      → ((number : ℕ) (m : Method) → callee ≡ Some number → slice_get p.methods number ≡ Some m → (ps rs : List UnitKind) → HasDescriptorUnits m.signature.descriptor ps rs → rs ≡ [])
      → Calling p callee f
  from_code : (now : AtInstruction p f) → is_call now.row.action ≡ true → Stands p now.here.number f.offset (IsFull (length f.slots + length now.row.pops))
      → ((named : MemberReference) → member_at now.here.code.file.pool now.instruction.operand ≡ Some named → HasDescriptor p callee named.signature.descriptor)
      → Calling p callee f

-- One that waits for an initialiser stands at a trigger of one.
pub data Triggering (x : Subject) (f : Frame) : Type 0 where
  by_start : f.method ≡ None → f.offset ≡ 0 → (entry : Method) → slice_get x.program.methods x.entry ≡ Some entry → HasInitialiser x.program entry.class → Triggering x f
  by_instruction : (now : AtInstruction x.program f) → IsTrue (is_trigger now.row.action) → (class : List ℕ) → Concerns x.program now.here.code.file.pool now.instruction.operand class
      → HasInitialiser x.program class → Triggering x f

-- A frame below another waits for its call, or has triggered it.
pub data FitsHeld (x : Subject) (callee : Option ℕ) (f : Frame) : Type 0 where
  called : f.waits ≡ true → Calling x.program callee f → FitsHeld x callee f
  triggered : FitsRunning x.program f → Triggering x f → FitsHeld x callee f

abbrev pub FitsBelow : Subject → Option ℕ → List Frame → Type 0
FitsBelow x callee [] = Unit {0}
FitsBelow x callee (f ∷ below) = FitsHeld x callee f × FitsBelow x f.method below

abbrev pub FitsIn : Subject → Mode → List Frame → Type 0
FitsIn x running [] = ⊥
FitsIn x running (f ∷ below) = FitsRunning x.program f × FitsBelow x f.method below
FitsIn x (throwing place) [] = ⊥
FitsIn x (throwing place) (f ∷ below) = FitsThrowing x.program f × FitsBelow x f.method below
FitsIn x ended frames = Unit {0}

abbrev pub Fits : Subject → State → Type 0
Fits x s = FitsIn x s.mode s.frames

pub fits_at : (x : Subject) (s : State) (mode : Mode) (frames : List Frame) → s.mode ≡ mode → s.frames ≡ frames → Fits x s → FitsIn x mode frames
fits_at x s mode frames is_mode are fits = subst (λ fs. FitsIn x mode fs) are (subst (λ m. FitsIn x m s.frames) is_mode fits)

-- ---- what fits by the number of the method

pub runs_in : (p : Program) (f : Frame) (number : ℕ) → f.method ≡ Some number → RunsAt p f → Stands p number f.offset (IsFull (length f.slots))
runs_in p f number is (in_start none) = absurd (none-some number (sym none ∙ is))
runs_in p f number is (in_code other of stands) = subst (λ (n : ℕ). Stands p n f.offset (IsFull (length f.slots))) (same_Some other number (sym of ∙ is)) stands

pub throws_in : (p : Program) (f : Frame) (number : ℕ) → f.method ≡ Some number → FitsThrowing p f → Stands p number f.offset IsAny
throws_in p f number is (at_start none offset) = absurd (none-some number (sym none ∙ is))
throws_in p f number is (at_step other of stands) = subst (λ (n : ℕ). Stands p n f.offset IsAny) (same_Some other number (sym of ∙ is)) stands

pub start_offset : (p : Program) (f : Frame) → f.method ≡ None → FitsThrowing p f → f.offset ≡ 0
start_offset p f none (at_start _ offset) = offset
start_offset p f none (at_step number of stands) = absurd (none-some number (sym none ∙ of))

any_of : (p : Program) (number offset : ℕ) (Holds : Code → ℕ → Type 0) → Stands p number offset Holds → Stands p number offset IsAny
any_of p number offset Holds stands l lc = let s = stands l lc in (s.0, s.1, tt)

-- ---- a frame that begins to throw

pub running_throws : (p : Program) (f : Frame) (now : AtInstruction p f) → RunsAt p f → FitsThrowing p f
running_throws p f now runs = at_step now.here.number now.here.of_frame (any_of p now.here.number f.offset _ (runs_in p f now.here.number now.here.of_frame runs))

pub triggering_throws : (x : Subject) (f : Frame) → RunsAt x.program f → Triggering x f → FitsThrowing x.program f
triggering_throws x f runs (by_start none offset entry stands has) = at_start none offset
triggering_throws x f runs (by_instruction now is class concerns has) = running_throws x.program f now runs

calling_throws : (p : Program) (callee : Option ℕ) (f : Frame) → Calling p callee f → FitsThrowing p f
calling_throws p callee f (from_start none offset results) = at_start none offset
calling_throws p callee f (from_code now is stands descriptor) = at_step now.here.number now.here.of_frame (any_of p now.here.number f.offset _ stands)

-- a frame below throws at its call or trigger
pub held_throws : (x : Subject) (callee : Option ℕ) (f : Frame) → FitsHeld x callee f → FitsThrowing x.program f
held_throws x callee f (called waits calling) = calling_throws x.program callee f calling
held_throws x callee f (triggered runs trigger) = triggering_throws x f runs.place trigger

-- ---- by whether it waits

pub held_calling : (x : Subject) (callee : Option ℕ) (f : Frame) → f.waits ≡ true → FitsHeld x callee f → Calling x.program callee f
held_calling x callee f waits (called _ calling) = calling
held_calling x callee f waits (triggered runs trigger) = absurd (cc (waits, runs.awake))

pub held_running : (x : Subject) (callee : Option ℕ) (f : Frame) → f.waits ≡ false → FitsHeld x callee f → FitsRunning x.program f
held_running x callee f awake (called waits calling) = absurd (cc (awake, waits))
held_running x callee f awake (triggered runs trigger) = runs

pub held_triggering : (x : Subject) (callee : Option ℕ) (f : Frame) → f.waits ≡ false → FitsHeld x callee f → Triggering x f
held_triggering x callee f awake (called waits calling) = absurd (cc (awake, waits))
held_triggering x callee f awake (triggered runs trigger) = trigger
