-- Public contracts rest on this module.
-- The flow graph that the walk over the code of a method gives, or its first fault (JVMS 4.9.2, 4.10).
use Rattle.std.specs.Prelude.{◌≡◌, ℕ, ◌+◌, List, [], ◌∷◌, ◌++◌, Option, Some, None, Result, Ok, Err, if◌then◌else◌}
use Rattle.jvm_model.specs.declared.class_file.ClassFile.{ClassFile}
use Rattle.jvm_model.specs.declared.code.Code.{Code}
use Rattle.jvm_model.specs.declared.code.PlacedInstruction.{PlacedInstruction}
use Rattle.failure.specs.declared.Failure.{Failure}
use Rattle.jvm_model.specs.declared.reason.Fault.{Fault}
use Rattle.failure.specs.declared.Failure.TheVariants.{Cause, OutOfMemory}
use Rattle.jvm_model.specs.declared.reason.Reason.{Reason}
use Rattle.jvm_model.specs.declared.reason.Reason.TheVariants.{StackUnder, StackOver, StackMerge, FallsOff}
use Rattle.flow_graph.specs.declared.effect.Effect.{Effect}
use Rattle.flow_graph.specs.declared.steps.Graph.{Graph}
use Rattle.flow_graph.specs.declared.steps.GraphStep.{GraphStep}
use Rattle.flow_graph.specs.declared.mark.Mark.{Mark}
use Rattle.flow_graph.specs.Effects.{HaveEffects}
use Rattle.flow_graph.specs.Flows.{successors, covering}
use Rattle.flow_graph.specs.Walks.{Walk, at_start}

-- What is wrong with an instruction: of several reasons the first in their order.
abbrev pub reason_at : Mark → Option Reason
reason_at m =
    if m.under then Some StackUnder
    else if m.over then Some StackOver
    else if m.merged then Some StackMerge
    else if m.falls then Some FallsOff
    else None

abbrev pub fault_or : ℕ → Option Reason → Option (ℕ × Reason) → Option (ℕ × Reason)
fault_or offset (Some reason) others = Some (offset, reason)
fault_or offset None others = others

-- The first instruction with which something is wrong, and what.
abbrev pub first_fault : List PlacedInstruction → List Mark → Option (ℕ × Reason)
first_fault (p ∷ instructions) (m ∷ marks) = fault_or p.offset (reason_at m) (first_fault instructions marks)
first_fault _ _ = None

-- The step of an instruction, if it was reached.
abbrev pub step_at : Code → ℕ → PlacedInstruction → Option ℕ → List GraphStep
step_at code number p None = []
step_at code number p (Some height) =
    record { offset = p.offset; height = height; successors = successors code.instructions number p; handlers = covering code.handlers p.offset } ∷ []

-- The steps of the instructions from a number on.
abbrev pub steps_from : Code → ℕ → List PlacedInstruction → List Mark → List GraphStep
steps_from code number (p ∷ instructions) (m ∷ marks) = step_at code number p m.height ++ steps_from code (number + 1) instructions marks
steps_from code number _ _ = []

abbrev pub steps_of : Code → List Mark → List GraphStep
steps_of code marks = steps_from code 0 code.instructions marks

-- The walk over the code ends with these marks.
pub record IsWalked (c : ClassFile) (code : Code) (marks : List Mark) : Type 0 where
  pub effects : List Effect
  pub known : HaveEffects c.pool code.instructions effects
  pub walk : Walk code effects (at_start code) marks

-- The graph is that of the code, whose walk notes nothing.
pub record IsGraph (c : ClassFile) (code : Code) (g : Graph) : Type 0 where
  pub marks : List Mark
  pub is_walked : IsWalked c code marks
  pub faultless : first_fault code.instructions marks ≡ None
  pub steps_are : g.steps ≡ steps_of code marks

-- The code has this first fault, at an offset in the file.
pub record IsFault (c : ClassFile) (code : Code) (offset : ℕ) (reason : Reason) : Type 0 where
  pub marks : List Mark
  pub is_walked : IsWalked c code marks
  pub within : ℕ
  pub first : first_fault code.instructions marks ≡ Some (within, reason)
  pub offset_is : offset ≡ code.at + within

-- The answer is the graph, or the first fault, or out of memory.
abbrev pub TellsGraph : ClassFile → Code → Result Graph (Failure Fault) → Type 0
TellsGraph c code (Ok g) = IsGraph c code g
TellsGraph c code (Err OutOfMemory) = Unit {0}
TellsGraph c code (Err (Cause fault)) = IsFault c code fault.offset fault.reason

-- Something is reported: the answer is not out of memory.
abbrev pub IsTold : Result Graph (Failure Fault) → Type 0
IsTold (Ok g) = Unit {0}
IsTold (Err OutOfMemory) = ⊥
IsTold (Err (Cause _)) = Unit {0}
