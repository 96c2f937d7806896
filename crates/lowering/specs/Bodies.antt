-- This crate's own proofs alone rest on this module.
-- The method that is lowered, and what is known of its instructions when they are judged.
use Rattle.std.specs.Prelude.{◌≡◌, ℕ, ◌+◌, false, All, Ok, List, length, Option, Some, None, slice_get, Contains, IsTrue}
use Rattle.failure.specs.declared.Failure.{Failure}
use Rattle.failure.specs.declared.Failure.TheVariants.{Cause, OutOfMemory}
use Rattle.jvm_model.specs.declared.class_file.Member.{Member}
use Rattle.jvm_model.specs.declared.number.ClassNo.{ClassNo}
use Rattle.jvm_model.specs.declared.reason.Reason.{Reason}
use Rattle.jvm_model.specs.declared.reason.Refusal.{Refusal}
use Rattle.jvm_model.specs.Instructions.{IsRowAt}
use Rattle.jvm_model.specs.LinkedPrograms.{IsProgram}
use Rattle.jvm_model.specs.Lookups.{class_name_at}
use Rattle.jvm_model.specs.Programs.{Field as ProgramField, Method as ProgramMethod, Program, in_file}
use Rattle.jvm_model.specs.RowViews.{row_view}
use Rattle.jvm_model.specs.Soundness.{IsChecked}
use Rattle.jvm_model.specs.Subtypes.{class_named}
use Rattle.jvm_model.specs.Table.{Row, row_of, is_trigger}
use Rattle.program_model.specs.Numbers.{name_at, IsClassNumber, IsFieldNumber, IsMethodNumber}
use Rattle.code_reader.specs.CodeReading.{ReadsCode}
use Rattle.flow_graph.specs.declared.steps.Graph.{Graph}
use Rattle.flow_graph.specs.declared.steps.GraphStep.{GraphStep}
use Rattle.flow_graph.specs.Effects.{with_row}
use Rattle.flow_graph.specs.Graphing.{IsCodeOf, IsStep}
use Rattle.flow_graph.specs.Graphs.{IsGraph}
use Rattle.machine_bytecode.specs.Machine.{Concerns}
use Rattle.machine_nodes.specs.Nodes.{IsClassNumber as IsClassNumberOf}
use Rattle.op_model.specs.declared.node.Node.{Node}
use Rattle.op_model.specs.declared.op.Op.{Op}
use Rattle.lowering_spec.specs.LoweredMethods.{IsNodeOf}
use Rattle.lowering_spec.specs.Operations.{IsOp}
use Rattle.lowering_operations.specs.Orders.{IsOrderedOp}
use Rattle.lowering_reasons.specs.declared.judgement.NamedMember.{NamedMember}
use Rattle.lowering_reasons.specs.declared.judgement.NamedMember.TheVariants.{NoMember, Field, Method}
use Rattle.lowering_reasons.specs.Judgements.{IsNamedMember}
use Rattle.lowering_reasons.specs.Reasons.{Judged, IsFirstReason}
use Rattle.lowering.specs.Orders.{IsInOrder}
use Rattle.lowering.specs.Refusals.{HasFirstReason, IsClassRefusal, IsRefusedAt}
use Rattle.lowering.specs.declared.body.MethodCode.{MethodCode}
use Rattle.lowering.specs.declared.body.JudgedStep.{JudgedStep}

-- The method stands in the program, in its class, and its code is read of a class file that was checked.
pub record IsMethodCode (b : MethodCode) : Type 0 where
  pub method : ProgramMethod
  pub stands : slice_get b.program.now.methods b.method.0 ≡ Some method
  pub class : IsClassNumber b.program.now b.current.0
  pub of_class : name_at b.program.now b.current.0 ≡ method.class
  pub checked : IsChecked b.class.now
  pub code : IsCodeOf b.class.now b.code.now

-- The step is one of a graph of the code.
pub record IsStepOf (b : MethodCode) (step : GraphStep) : Type 0 where
  pub steps : List GraphStep
  pub is : IsStep b.class.now b.code.now steps step

-- The method has this number in its class file, and the graph is that of its code.
pub record IsOwnBody (b : MethodCode) (number : ℕ) (graph : Graph) : Type 0 where
  pub program : IsProgram b.program.now
  pub known : IsMethodCode b
  pub member : Member
  pub member_there : slice_get b.class.now.methods number ≡ Some member
  pub of_file : known.method.body ≡ in_file b.class.now number member
  pub read : ReadsCode b.class.now number (Ok b.code.now)
  pub flows : IsGraph b.class.now b.code.now graph
  pub steps : All (IsStepOf b) graph.steps

-- The first reason at a step, in the method of the number.
abbrev pub HasFirst : MethodCode → GraphStep → Option Reason → Type 0
HasFirst b step first = (m : ProgramMethod) → slice_get b.program.now.methods b.method.0 ≡ Some m → HasFirstReason b.program.now m b.class.now.pool b.code.now step first

-- The instruction of a step, as it is judged.
abbrev pub judged_step : MethodCode → JudgedStep → Judged
judged_step b j = record {
  program = b.program.now;
  current = name_at b.program.now b.current.0;
  pool = b.class.now.pool;
  action = (row_view j.row.now).action;
  operands = (row_view j.row.now).operands;
  operand = j.placed.now.instruction.operand;
}

-- It stands at the step, has the row of its opcode and no reason, and names this member.
pub record IsJudgedStep (b : MethodCode) (step : GraphStep) (j : JudgedStep) : Type 0 where
  pub stands : Contains b.code.now.instructions j.placed.now
  pub offset : j.placed.now.offset ≡ step.offset
  pub of_opcode : row_of j.placed.now.instruction.opcode ≡ Some (row_view j.row.now)
  pub free : IsFirstReason (judged_step b j) None
  pub member : IsNamedMember (judged_step b j) j.member

-- ---- the parts of a node

-- The operation is that of the instruction of the step.
pub record HasStepOperation (b : MethodCode) (step : GraphStep) (j : JudgedStep) (op : Op) : Type 0 where
  pub row : Row
  pub of_row : IsRowAt b.class.now.pool (with_row j.placed.now.instruction (row_view j.row.now)) row
  pub base : ℕ
  pub lowest : base + length row.pops ≡ b.code.now.max_locals + step.height
  pub is : IsOp row.action (record {
    program = b.program.now;
    method = b.method.0;
    current = name_at b.program.now b.current.0;
    pool = b.class.now.pool;
    instruction = with_row j.placed.now.instruction (row_view j.row.now);
    offset = step.offset;
    row = row;
    base = base;
  }) op

-- Its moves are in order, by each row that the constant pool allows, wherever its lowest unit is.
pub record HasStepOrder (b : MethodCode) (step : GraphStep) (j : JudgedStep) (op : Op) : Type 0 where
  pub for_row : (row : Row) → IsRowAt b.class.now.pool (with_row j.placed.now.instruction (row_view j.row.now)) row → (base : ℕ) → base + length row.pops ≡ b.code.now.max_locals + step.height
      → IsOrderedOp row j.placed.now.instruction.operand base op

-- The class that the instruction names, if it is in the program.
pub data IsMadeClass (b : MethodCode) (j : JudgedStep) (class : Option ClassNo) : Type 0 where
  made : (name : List ℕ) (number : ClassNo) → class_name_at b.class.now.pool j.placed.now.instruction.operand ≡ Some name
      → IsClassNumberOf b.program.now number name → class ≡ Some number → IsMadeClass b j class
  no_name : class_name_at b.class.now.pool j.placed.now.instruction.operand ≡ None → class ≡ None → IsMadeClass b j class
  not_there : (name : List ℕ) → class_name_at b.class.now.pool j.placed.now.instruction.operand ≡ Some name → class_named b.program.now name ≡ None
      → class ≡ None → IsMadeClass b j class

-- The member is one of the program.
abbrev pub IsMemberNumber : Program → NamedMember → Type 0
IsMemberNumber p NoMember = Unit {0}
IsMemberNumber p (Field field) = IsFieldNumber p field.0
IsMemberNumber p (Method resolved target) = IsMethodNumber p resolved.0

-- The class that declares the member.
abbrev pub NamesOwner : Program → NamedMember → Option ClassNo → Type 0
NamesOwner p NoMember class = class ≡ None
NamesOwner p (Field field) class = (number : ClassNo) × (class ≡ Some number) × ((f : ProgramField) → slice_get p.fields field.0 ≡ Some f → IsClassNumberOf p number f.class)
NamesOwner p (Method resolved target) class = (number : ClassNo) × (class ≡ Some number) × ((m : ProgramMethod) → slice_get p.methods resolved.0 ≡ Some m → IsClassNumberOf p number m.class)

-- The class whose initialisation the instruction may start.
pub data TriggersAt (b : MethodCode) (j : JudgedStep) (trigger : Option ClassNo) : Type 0 where
  nothing : is_trigger (row_view j.row.now).action ≡ false → trigger ≡ None → TriggersAt b j trigger
  a_class : IsTrue (is_trigger (row_view j.row.now).action) → (name : List ℕ) (number : ClassNo)
      → Concerns b.program.now b.class.now.pool j.placed.now.instruction.operand name → IsClassNumberOf b.program.now number name → trigger ≡ Some number → TriggersAt b j trigger

-- The node is that of the step, in the method of the number.
abbrev pub IsNodeAt : MethodCode → GraphStep → Node → Type 0
IsNodeAt b step n = (m : ProgramMethod) → slice_get b.program.now.methods b.method.0 ≡ Some m → IsNodeOf b.program.now b.method.0 m b.class.now.pool b.code.now step n

-- And it is in order.
abbrev pub IsOrderedAt : MethodCode → GraphStep → Node → Type 0
IsOrderedAt b step n = (m : ProgramMethod) → slice_get b.program.now.methods b.method.0 ≡ Some m → IsInOrder b.program.now b.method.0 m b.class.now.pool b.code.now step n

-- The failure is the refusal with the file of the method's class; or out of memory.
abbrev pub IsRefusalIn : MethodCode → ℕ → Reason → Failure Refusal → Type 0
IsRefusalIn b offset reason failure = IsClassRefusal b.program.now b.current.0 offset reason failure

-- The refusal is for the first reason among the steps; or memory ran out.
abbrev pub IsStepsRefusal : MethodCode → List GraphStep → Failure Refusal → Type 0
IsStepsRefusal b steps (Cause r) = (within : ℕ) × (reason : Reason) × IsRefusalIn b (b.code.now.at + within) reason (Cause r)
    × ((m : ProgramMethod) → slice_get b.program.now.methods b.method.0 ≡ Some m → IsRefusedAt b.program.now m b.class.now.pool b.code.now steps within reason)
IsStepsRefusal b steps OutOfMemory = Unit {0}
