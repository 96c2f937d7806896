-- Public contracts rest on this module.
-- The order of the moves of an operation.
use Rattle.std.specs.Prelude.{◌≡◌, ℕ, ◌+◌, length}
use Rattle.jvm_model.specs.Instructions.{IsRowAt}
use Rattle.jvm_model.specs.RowViews.{row_view}
use Rattle.jvm_model.specs.Table.{Row}
use Rattle.flow_graph.specs.Effects.{with_row}
use Rattle.op_model.specs.declared.op.Op.{Op}
use Rattle.op_model.specs.declared.op.Op.TheVariants.{Assign, Load, Store, LoadElement, StoreElement, LoadStatic, StoreStatic, New, NewArray, Constant, Call, Return, Throw, Cast, Probe}
use Rattle.lowering_operations.specs.MoveLists.{moves_of}
use Rattle.lowering_operations.specs.declared.placement.Placement.{Placement}

-- The moves are those of the row, in its order, each once: first what is stored, then what is pushed, and then the popped units beyond
-- that. Another operation has no moves.
abbrev pub IsOrderedOp : Row → (operand base : ℕ) → Op → Type 0
IsOrderedOp row operand base (Assign moves) = moves ≡ moves_of row operand base
IsOrderedOp row operand base (Load object field target) = Unit {0}
IsOrderedOp row operand base (Store object field value) = Unit {0}
IsOrderedOp row operand base (LoadElement array target) = Unit {0}
IsOrderedOp row operand base (StoreElement array value) = Unit {0}
IsOrderedOp row operand base (LoadStatic field target) = Unit {0}
IsOrderedOp row operand base (StoreStatic field value) = Unit {0}
IsOrderedOp row operand base (New site target) = Unit {0}
IsOrderedOp row operand base (NewArray sites target) = Unit {0}
IsOrderedOp row operand base (Constant site target) = Unit {0}
IsOrderedOp row operand base (Call call) = Unit {0}
IsOrderedOp row operand base (Return value) = Unit {0}
IsOrderedOp row operand base (Throw value) = Unit {0}
IsOrderedOp row operand base (Cast class slot) = Unit {0}
IsOrderedOp row operand base (Probe slot) = Unit {0}

-- The operation is in order, by each row that the constant pool allows, wherever its lowest unit is.
pub record IsOrdered (at : Placement) (op : Op) : Type 0 where
  pub for_row : (row : Row) → IsRowAt at.class.now.pool (with_row at.instruction.now (row_view at.row.now)) row → (base : ℕ) → base + length row.pops ≡ at.top → IsOrderedOp row at.instruction.now.operand base op
