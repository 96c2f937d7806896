-- This crate's own proofs alone rest on this module.
-- A method of a class file as it is looked at here, and what reading it tells.
use Rattle.std.specs.Prelude.{◌≡◌, ◌⊎◌, ℕ, Result, Ok, Err, Some, slice_get}
use Rattle.failure.specs.declared.Failure.{Failure}
use Rattle.failure.specs.declared.Failure.TheVariants.{Cause, OutOfMemory}
use Rattle.jvm_model.specs.declared.class_file.ClassFile.{ClassFile}
use Rattle.jvm_model.specs.declared.class_file.Member.{Member}
use Rattle.jvm_model.specs.declared.code.Code.{Code}
use Rattle.jvm_model.specs.declared.reason.Fault.{Fault}
use Rattle.jvm_model.specs.declared.reason.Refusal.{Refusal}
use Rattle.jvm_model.specs.LinkedPrograms.{IsProgram}
use Rattle.jvm_model.specs.Layout.{HasCodeAttribute}
use Rattle.jvm_model.specs.Programs.{Method, Program, in_file}
use Rattle.jvm_model.specs.Soundness.{IsChecked}
use Rattle.code_reader.specs.CodeReading.{ReadsCode}
use Rattle.flow_graph.specs.Graphs.{IsFault, IsGraph}
use Rattle.program_model.specs.Numbers.{name_at, IsClassNumber}
use Rattle.op_model.specs.declared.lowered.LoweredMethod.{LoweredMethod}
use Rattle.op_model.specs.Supplies.{IsRefusalOf}
use Rattle.lowering_supply.specs.Supplied.{IsSupplied}
use Rattle.lowering_supply.specs.declared.coded.CodedMethod.{CodedMethod}
use Rattle.lowering_supply.specs.declared.coded.Flow.{Flow}

-- The method is that of the class file at its place, which has code for it, and its class has the number.
pub record IsShown (p : Program) (m : CodedMethod) : Type 0 where
  pub program : IsProgram p
  pub method : Method
  pub stands : slice_get p.methods m.number.0 ≡ Some method
  pub member : Member
  pub of_file : method.body ≡ in_file m.file.now m.place member
  pub code : HasCodeAttribute m.file.now m.place
  pub checked : IsChecked m.file.now
  pub class : IsClassNumber p m.class.0
  pub of_class : method.class ≡ name_at p m.class.0

-- The first fault of the code of a method: in reading it, or else in its flow graph.
abbrev pub IsFirstFault : ClassFile → ℕ → Fault → Type 0
IsFirstFault file place fault = ReadsCode file place (Err fault) ⊎ ((code : Code) × ReadsCode file place (Ok code) × IsFault file code fault.offset fault.reason)

-- The code and its flow graph, or the first fault, or out of memory.
abbrev pub TellsFlow : ClassFile → ℕ → Result Flow (Failure Fault) → Type 0
TellsFlow file place (Ok flow) = ReadsCode file place (Ok flow.code) × IsGraph file flow.code flow.graph
TellsFlow file place (Err (Cause fault)) = IsFirstFault file place fault
TellsFlow file place (Err OutOfMemory) = Unit {0}

-- The method is given so, or memory ran out.
abbrev pub TellsSupplied : Program → ℕ → Result LoweredMethod (Failure Refusal) → Type 0
TellsSupplied p number (Ok lowered) = IsSupplied p number (Ok lowered)
TellsSupplied p number (Err failure) = IsRefusalOf (IsSupplied p number) failure
