-- Public contracts rest on this module.
-- The instruction of a step of a flow graph, and its row (JVMS 2.6.2, 6.5).
use Rattle.std.specs.Prelude.{◌≡◌, ◌⊎◌, ◌≤◌, ℕ, List, length, Some, slice_get}
use Rattle.jvm_model.specs.declared.class_file.ClassFile.{ClassFile}
use Rattle.jvm_model.specs.declared.code.Code.{Code}
use Rattle.jvm_model.specs.declared.code.Instruction.{Instruction as Given}
use Rattle.jvm_model.specs.declared.code.PlacedInstruction.{PlacedInstruction}
use Rattle.jvm_model.specs.declared.pool.PoolEntry.{PoolEntry}
use Rattle.jvm_model.specs.Instructions.{IsRowAt}
use Rattle.jvm_model.specs.Table.{Row, row_of, refused}
use Rattle.flow_graph.specs.declared.steps.GraphStep.{GraphStep}
use Rattle.flow_graph.specs.Effects.{with_row}

-- The instruction of an opcode's row has a row with what the constant pool says of its units, for which there are enough at
-- this height.
pub record IsResolved (pool : List PoolEntry) (i : Given) (r : Row) (height : ℕ) : Type 0 where
  pub resolved : Row
  pub is_row : IsRowAt pool (with_row i r) resolved
  pub enough : length resolved.pops ≤ height

-- The step is that of an instruction of the code, whose action is the refused one, or whose row is resolved.
pub record HasRow (c : ClassFile) (code : Code) (s : GraphStep) : Type 0 where
  pub number : ℕ
  pub placed : PlacedInstruction
  pub stands : slice_get code.instructions number ≡ Some placed
  pub offset_is : s.offset ≡ placed.offset
  pub row : Row
  pub of_opcode : row_of placed.instruction.opcode ≡ Some row
  pub resolved : (row.action ≡ refused) ⊎ IsResolved c.pool placed.instruction row s.height
