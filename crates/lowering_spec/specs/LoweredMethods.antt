-- Public contracts rest on this module.
-- The nodes of a method: one for each instruction that is reached, in the order of their offsets.
use Rattle.std.specs.Prelude.{◌≡◌, ◌↔◌, ℕ, ◌+◌, Bool, false, if◌then◌else◌, List, length, Option, Some, None, slice_get, Contains, IsTrue}
use Rattle.std.specs.List.{AllZip}
use Rattle.jvm_model.specs.declared.code.Code.{Code}
use Rattle.jvm_model.specs.declared.code.Handler.{Handler}
use Rattle.jvm_model.specs.declared.code.PlacedInstruction.{PlacedInstruction}
use Rattle.jvm_model.specs.declared.number.ClassNo.{ClassNo}
use Rattle.jvm_model.specs.declared.pool.PoolEntry.{PoolEntry}
use Rattle.jvm_model.specs.Instructions.{IsRowAt, HasDescriptorUnits}
use Rattle.jvm_model.specs.Lookups.{class_name_at}
use Rattle.jvm_model.specs.Programs.{Program, Method, is_static}
use Rattle.jvm_model.specs.Table.{Row, row_of, UnitKind, is_trigger}
use Rattle.flow_graph.specs.declared.steps.Graph.{Graph}
use Rattle.flow_graph.specs.declared.steps.GraphStep.{GraphStep}
use Rattle.flow_graph.specs.Effects.{with_row}
use Rattle.op_model.specs.declared.lowered.LoweredMethod.{LoweredMethod}
use Rattle.op_model.specs.declared.node.Node.{Node}
use Rattle.op_model.specs.declared.node.NodeHandler.{NodeHandler}
use Rattle.machine_bytecode.specs.Machine.{Concerns}
use Rattle.machine_nodes.specs.Nodes.{IsClassNumber, AreThrownAt}
use Rattle.lowering_spec.specs.Operations.{Placed, IsOp}

-- ---- an instruction that is reached

-- It stands in the code at the offset of a step of the graph, and the stack has the step's height before it.
pub record IsPlacedAt (p : Program) (number : ℕ) (m : Method) (pool : List PoolEntry) (code : Code) (step : GraphStep) (i : Placed) : Type 0 where
  pub placed : PlacedInstruction
  pub stands : Contains code.instructions placed
  pub offset : placed.offset ≡ step.offset
  pub opcode_row : Row
  pub of_opcode : row_of placed.instruction.opcode ≡ Some opcode_row
  pub row : Row
  pub of_row : IsRowAt pool (with_row placed.instruction opcode_row) row
  pub base : ℕ
  pub lowest : base + length row.pops ≡ code.max_locals + step.height
  pub is : i ≡ record { program = p; method = number; current = m.class; pool = pool; instruction = with_row placed.instruction opcode_row; offset = step.offset; row = row; base = base }

-- ---- handlers

-- The class that a handler takes; none where it takes each (JVMS 4.7.3).
pub data IsCatch (p : Program) (pool : List PoolEntry) (catch_type : ℕ) (catch : Option ClassNo) : Type 0 where
  all : catch_type ≡ 0 → catch ≡ None → IsCatch p pool catch_type catch
  of_class : (catch_type ≡ 0 → ⊥) → (name : List ℕ) (number : ClassNo) → class_name_at pool catch_type ≡ Some name → IsClassNumber p number name
      → catch ≡ Some number → IsCatch p pool catch_type catch

-- The handler of the table that has this place.
pub record IsHandlerAt (p : Program) (pool : List PoolEntry) (handlers : List Handler) (place : ℕ) (h : NodeHandler) : Type 0 where
  pub handler : Handler
  pub stands : slice_get handlers place ≡ Some handler
  pub target : h.target ≡ handler.target
  pub catch : IsCatch p pool handler.catch_type h.catch

-- ---- initialisation

-- The class whose initialisation the instruction may start, by number and by name.
pub data HasTrigger (i : Placed) (trigger : Option ClassNo) (class : Option (List ℕ)) : Type 0 where
  no_trigger : is_trigger i.row.action ≡ false → trigger ≡ None → class ≡ None → HasTrigger i trigger class
  for_class : IsTrue (is_trigger i.row.action) → (name : List ℕ) (number : ClassNo) → Concerns i.program i.pool i.instruction.operand name
      → IsClassNumber i.program number name → trigger ≡ Some number → class ≡ Some name → HasTrigger i trigger class

-- ---- the whole

-- The node of a step of the graph. Its successors are those of the step, in any order.
pub record IsNodeOf (p : Program) (number : ℕ) (m : Method) (pool : List PoolEntry) (code : Code) (step : GraphStep) (n : Node) : Type 0 where
  pub instruction : Placed
  pub placed : IsPlacedAt p number m pool code step instruction
  pub offset : n.offset ≡ step.offset
  pub op : IsOp instruction.row.action instruction n.op
  pub successors : (next : ℕ) → Contains n.successors next ↔ Contains step.successors next
  pub handlers : AllZip (IsHandlerAt p pool code.handlers) step.handlers n.handlers
  pub trigger_class : Option (List ℕ)
  pub trigger : HasTrigger instruction n.trigger trigger_class
  pub throws : AreThrownAt p instruction.row.raises trigger_class n.throws

-- The units of a method's parameters, with the receiver of an instance method.
pub record HasParameterUnits (m : Method) (units : ℕ) : Type 0 where
  pub parameters : List UnitKind
  pub results : List UnitKind
  pub of_descriptor : HasDescriptorUnits m.signature.descriptor parameters results
  pub is : units ≡ (if is_static m then 0 else 1) + length parameters

-- The method of a number as nodes, by its code and the graph of the code.
pub record IsLowered (p : Program) (number : ℕ) (pool : List PoolEntry) (code : Code) (graph : Graph) (l : LoweredMethod) : Type 0 where
  pub method : Method
  pub stands : slice_get p.methods number ≡ Some method
  pub number_is : l.method ≡ record { 0 = number }
  pub slots : l.slots ≡ code.max_locals
  pub stack : l.stack ≡ code.max_stack
  pub params : HasParameterUnits method l.params
  pub nodes : AllZip (IsNodeOf p number method pool code) graph.steps l.nodes
