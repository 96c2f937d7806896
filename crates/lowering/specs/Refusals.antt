-- Public contracts rest on this module.
-- The first reason for which a method has no nodes, and where it stands; and what lowering a method answers.
use Rattle.std.specs.Prelude.{◌≡◌, ℕ, ◌+◌, List, ◌∷◌, All, Option, Some, None, Result, Ok, Err, slice_get, Contains}
use Rattle.failure.specs.declared.Failure.{Failure}
use Rattle.failure.specs.declared.Failure.TheVariants.{Cause, OutOfMemory}
use Rattle.jvm_model.specs.declared.class_file.ClassFile.{ClassFile}
use Rattle.jvm_model.specs.declared.class_file.Member.{Member}
use Rattle.jvm_model.specs.declared.code.Code.{Code}
use Rattle.jvm_model.specs.declared.code.PlacedInstruction.{PlacedInstruction}
use Rattle.jvm_model.specs.declared.pool.PoolEntry.{PoolEntry}
use Rattle.jvm_model.specs.declared.reason.Reason.{Reason}
use Rattle.jvm_model.specs.declared.reason.Reason.TheVariants.{NoStub}
use Rattle.jvm_model.specs.declared.reason.Refusal.{Refusal}
use Rattle.jvm_model.specs.Code.{CodeBody, HasCode}
use Rattle.jvm_model.specs.Programs.{Class, Method, Program, in_file}
use Rattle.jvm_model.specs.Subtypes.{class_named}
use Rattle.jvm_model.specs.Table.{Row, row_of}
use Rattle.code_reader.specs.CodeReading.{ReadsCode}
use Rattle.flow_graph.specs.declared.steps.Graph.{Graph}
use Rattle.flow_graph.specs.declared.steps.GraphStep.{GraphStep}
use Rattle.flow_graph.specs.Graphs.{IsGraph}
use Rattle.op_model.specs.declared.lowered.LoweredMethod.{LoweredMethod}
use Rattle.lowering_spec.specs.LoweredMethods.{IsLowered}
use Rattle.lowering_handlers.specs.Entries.{IsFirstUnknown, AreKnown, entry_offset}
use Rattle.lowering_reasons.specs.Reasons.{Judged, IsFirstReason}

-- A class file has the method, and the code and the graph are those that are read of it.
pub record IsOwnCode (p : Program) (number : ℕ) (code : Code) (graph : Graph) : Type 0 where
  pub method : Method
  pub stands : slice_get p.methods number ≡ Some method
  pub file : ClassFile
  pub place : ℕ
  pub member : Member
  pub of_file : method.body ≡ in_file file place member
  pub read : ReadsCode file place (Ok code)
  pub flows : IsGraph file code graph

-- ---- instructions

-- The instruction of a step, as it is judged.
pub record IsJudgedAt (p : Program) (m : Method) (pool : List PoolEntry) (code : Code) (step : GraphStep) (j : Judged) : Type 0 where
  pub placed : PlacedInstruction
  pub stands : Contains code.instructions placed
  pub offset : placed.offset ≡ step.offset
  pub row : Row
  pub of_opcode : row_of placed.instruction.opcode ≡ Some row
  pub is : j ≡ record { program = p; current = m.class; pool = pool; action = row.action; operands = row.operands; operand = placed.instruction.operand }

-- The first reason at a step, if there is one.
pub record HasFirstReason (p : Program) (m : Method) (pool : List PoolEntry) (code : Code) (step : GraphStep) (first : Option Reason) : Type 0 where
  pub judged : Judged
  pub at : IsJudgedAt p m pool code step judged
  pub is : IsFirstReason judged first

-- No instruction that is reached has a reason.
abbrev pub AreFree : Program → Method → List PoolEntry → Code → List GraphStep → Type 0
AreFree p m pool code steps = All (λ (step : GraphStep). HasFirstReason p m pool code step None) steps

-- The first instruction that has one, of the steps in their order, which is that of their offsets.
pub data IsRefusedAt (p : Program) (m : Method) (pool : List PoolEntry) (code : Code) : List GraphStep → (offset : ℕ) → Reason → Type 0 where
  here : (step : GraphStep) (later : List GraphStep) (offset : ℕ) (reason : Reason) → HasFirstReason p m pool code step (Some reason) → offset ≡ step.offset
      → IsRefusedAt p m pool code (step ∷ later) offset reason
  later : (step : GraphStep) (steps : List GraphStep) (offset : ℕ) (reason : Reason) → HasFirstReason p m pool code step None
      → IsRefusedAt p m pool code steps offset reason → IsRefusedAt p m pool code (step ∷ steps) offset reason

-- ---- the method

-- The first reason in the method: at an instruction, or, where none has one, at an entry of the table of handlers.
pub data IsFirstRefusal (p : Program) (file : ClassFile) (code : Code) (graph : Graph) (m : Method) (member : Member) (offset : ℕ) (reason : Reason) : Type 0 where
  at_instruction : (within : ℕ) → IsRefusedAt p m file.pool code graph.steps within reason → offset ≡ code.at + within
      → IsFirstRefusal p file code graph m member offset reason
  at_entry : (place : ℕ) (body : CodeBody) → AreFree p m file.pool code graph.steps → IsFirstUnknown p file.pool code.handlers graph.steps place → HasCode file member body
      → offset ≡ entry_offset code.at body place → reason ≡ NoStub → IsFirstRefusal p file code graph m member offset reason

-- The refusal of the method names the file of its class.
pub record IsRefused (p : Program) (number : ℕ) (code : Code) (graph : Graph) (r : Refusal) : Type 0 where
  pub own : IsOwnCode p number code graph
  pub class : Class
  pub named : class_named p own.method.class ≡ Some class
  pub in_class_file : r.file ≡ class.file
  pub first : IsFirstRefusal p own.file code graph own.method own.member r.offset r.reason

-- The method has no reason, and these are its nodes.
pub record IsAccepted (p : Program) (number : ℕ) (code : Code) (graph : Graph) (l : LoweredMethod) : Type 0 where
  pub own : IsOwnCode p number code graph
  pub free : AreFree p own.method own.file.pool code graph.steps
  pub known : AreKnown p own.file.pool code.handlers graph.steps
  pub lowered : IsLowered p number own.file.pool code graph l

-- What lowering answers: the nodes, or the first refusal, or out of memory.
abbrev pub IsLoweringAnswer : Program → ℕ → Code → Graph → Result LoweredMethod (Failure Refusal) → Type 0
IsLoweringAnswer p number code graph (Ok l) = IsAccepted p number code graph l
IsLoweringAnswer p number code graph (Err (Cause refusal)) = IsRefused p number code graph refusal
IsLoweringAnswer p number code graph (Err OutOfMemory) = Unit {0}

-- ---- the file

-- The failure is a refusal at this offset of the file that has the class of the number; or out of memory.
abbrev pub IsClassRefusal : Program → (class offset : ℕ) → Reason → Failure Refusal → Type 0
IsClassRefusal p class offset reason (Cause r) = (r.offset ≡ offset) × (r.reason ≡ reason) × ((c : Class) → slice_get p.classes class ≡ Some c → r.file ≡ c.file)
IsClassRefusal p class offset reason OutOfMemory = Unit {0}
