-- Public contracts rest on this module.
-- When what the machine that runs bytecode does is told by nodes: in states whose frames are of methods that have them.
use Rattle.std.specs.Prelude.{codes, ◌≡◌, ◌⊎◌, ℕ, List, [], ◌∷◌, map, Some, Ok, slice_get, Contains}
use Rattle.jvm_model.specs.declared.code.Code.{Code}
use Rattle.jvm_model.specs.LinkedPrograms.{IsProgram, IsThere}
use Rattle.jvm_model.specs.Programs.{Method, Program}
use Rattle.jvm_model.specs.Soundness.{plain_descriptor}
use Rattle.jvm_model.specs.Table.{null_pointer, array_index, array_store, arithmetic, class_cast, negative_size}
use Rattle.flow_graph.specs.declared.steps.Graph.{Graph}
use Rattle.op_model.specs.declared.lowered.LoweredMethod.{LoweredMethod}
use Rattle.op_model.specs.Supplies.{Given}
use Rattle.machine_bytecode.specs.Machine.{exception_class}
use Rattle.machine_bytecode.specs.Objects.{Subject}
use Rattle.machine_bytecode.specs.States.{Frame, State}
use Rattle.lowering.specs.Refusals.{IsAccepted}

-- The method of the frame, if it has one, is given as nodes.
abbrev pub HasNodes : Given → Frame → Type 0
HasNodes given f = (number : ℕ) → f.method ≡ Some number → (m : LoweredMethod) × (given number ≡ Some (Ok m))

-- So is that of each frame of the state.
pub record AreLowered (given : Given) (s : State) : Type 0 where
  pub each : (f : Frame) → Contains s.frames f → HasNodes given f

-- The classes of the exceptions that instructions raise and that initialisation gives (JVMS 5.5, 6.5) are in the program.
abbrev pub exception_names : List (List ℕ)
exception_names =
    codes "java/lang/ExceptionInInitializerError" ∷ codes "java/lang/NoClassDefFoundError"
    ∷ map exception_class (null_pointer ∷ array_index ∷ array_store ∷ arithmetic ∷ class_cast ∷ negative_size ∷ [])

pub record HasExceptions (p : Program) : Type 0 where
  pub each : (name : List ℕ) → Contains exception_names name → IsThere p name

-- The entry takes nothing, or an array of strings, and has no result.
pub record HasEntry (x : Subject) : Type 0 where
  pub method : Method
  pub stands : slice_get x.program.methods x.entry ≡ Some method
  pub descriptor : (method.signature.descriptor ≡ plain_descriptor) ⊎ (method.signature.descriptor ≡ codes "([Ljava/lang/String;)V")

-- Each method that is given as nodes is accepted with these nodes, by its own code and the flow graph of that.
pub record GivesNodes (p : Program) (given : Given) : Type 0 where
  pub each : (number : ℕ) (m : LoweredMethod) → given number ≡ Some (Ok m) → (code : Code) × (graph : Graph) × IsAccepted p number code graph m

-- What is asked of a run: a linked program with the classes of exceptions and the entry, and methods that are given as their nodes.
pub record IsRun (x : Subject) (given : Given) : Type 0 where
  pub program : IsProgram x.program
  pub exceptions : HasExceptions x.program
  pub entry : HasEntry x
  pub nodes : GivesNodes x.program given
