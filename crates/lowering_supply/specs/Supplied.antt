-- Public contracts rest on this module.
-- What a method of a class file is given as: its nodes; or the first refusal of its code, of the flow graph of that, or of its lowering.
use Rattle.std.specs.Prelude.{◌≡◌, ℕ, Some, Result, Ok, Err}
use Rattle.jvm_model.specs.declared.class_file.ClassFile.{ClassFile}
use Rattle.jvm_model.specs.declared.code.Code.{Code}
use Rattle.jvm_model.specs.declared.reason.Fault.{Fault}
use Rattle.jvm_model.specs.declared.reason.Reason.{Reason}
use Rattle.jvm_model.specs.declared.reason.Refusal.{Refusal}
use Rattle.jvm_model.specs.LinkedPrograms.{IsProgram}
use Rattle.jvm_model.specs.Programs.{Class, Method, Program}
use Rattle.jvm_model.specs.Subtypes.{class_named}
use Rattle.code_reader.specs.CodeReading.{ReadsCode}
use Rattle.flow_graph.specs.declared.steps.Graph.{Graph}
use Rattle.flow_graph.specs.Graphs.{IsFault, IsGraph}
use Rattle.op_model.specs.declared.lowered.LoweredMethod.{LoweredMethod}
use Rattle.op_model.specs.Supplies.{IsCodedMethod}
use Rattle.lowering.specs.Orders.{AreInOrder}
use Rattle.lowering.specs.Refusals.{IsAccepted, IsRefused}

-- The refusal has the file of the method's class, this offset and this reason.
pub record IsRefusalFor (p : Program) (m : Method) (offset : ℕ) (reason : Reason) (r : Refusal) : Type 0 where
  pub class : Class
  pub named : class_named p m.class ≡ Some class
  pub is : r ≡ record { file = class.file; offset = offset; reason = reason }

-- The first of these that is refused: reading the method's code, its flow graph, and lowering; or the nodes, in order.
pub data IsSupplyOutcome (p : Program) (number : ℕ) (m : Method) (file : ClassFile) (place : ℕ) (answer : Result LoweredMethod Refusal) : Type 0 where
  bad_code : (fault : Fault) → ReadsCode file place (Err fault) → (r : Refusal) → IsRefusalFor p m fault.offset fault.reason r → answer ≡ Err r
      → IsSupplyOutcome p number m file place answer
  bad_flow : (code : Code) → ReadsCode file place (Ok code) → (offset : ℕ) (reason : Reason) → IsFault file code offset reason
      → (r : Refusal) → IsRefusalFor p m offset reason r → answer ≡ Err r → IsSupplyOutcome p number m file place answer
  not_lowered : (code : Code) → ReadsCode file place (Ok code) → (graph : Graph) → IsGraph file code graph
      → (r : Refusal) → IsRefused p number code graph r → answer ≡ Err r → IsSupplyOutcome p number m file place answer
  lowered : (code : Code) → ReadsCode file place (Ok code) → (graph : Graph) → IsGraph file code graph
      → (l : LoweredMethod) → IsAccepted p number code graph l → AreInOrder p number code graph l → answer ≡ Ok l → IsSupplyOutcome p number m file place answer

-- The method of the number is given as this.
pub record IsSupplied (p : Program) (number : ℕ) (answer : Result LoweredMethod Refusal) : Type 0 where
  pub program : IsProgram p
  pub coded : IsCodedMethod p number
  pub outcome : IsSupplyOutcome p number coded.method coded.file coded.place answer
