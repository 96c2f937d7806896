-- Public contracts rest on this module.
-- Where an instruction stands for which an operation is made, and that the operation is that of the instruction.
use Rattle.std.specs.Prelude.{◌≡◌, ℕ, ◌+◌, ◌≤◌, length}
use Rattle.jvm_model.specs.Instructions.{IsRowAt}
use Rattle.jvm_model.specs.RowViews.{row_view}
use Rattle.jvm_model.specs.Table.{Row}
use Rattle.flow_graph.specs.declared.effect.Effect.{Effect}
use Rattle.flow_graph.specs.Effects.{with_row, HasEffect}
use Rattle.op_model.specs.declared.op.Op.{Op}
use Rattle.lowering_spec.specs.Operations.{Placed, IsOp}
use Rattle.program_model.specs.Numbers.{name_at}
use Rattle.lowering_reasons.specs.Reasons.{Judged}
use Rattle.lowering_operations.specs.declared.placement.Placement.{Placement}

-- The instruction, as it is judged.
abbrev pub judged_at : Placement → Judged
judged_at at = record {
  program = at.program.now;
  current = name_at at.program.now at.current.0;
  pool = at.class.now.pool;
  action = (row_view at.row.now).action;
  operands = (row_view at.row.now).operands;
  operand = at.instruction.now.operand;
}

-- There are as many units below the top as the instruction pops.
pub record HasUnitsBelow (at : Placement) : Type 0 where
  pub effect : Effect
  pub has : HasEffect at.class.now.pool at.instruction.now effect
  pub enough : effect.pops ≤ at.top

-- The instruction with its row, and the slot of the lowest unit that it pops.
abbrev pub placed_at : Placement → Row → ℕ → Placed
placed_at at row base = record {
  program = at.program.now;
  method = at.method.0;
  current = name_at at.program.now at.current.0;
  pool = at.class.now.pool;
  instruction = with_row at.instruction.now (row_view at.row.now);
  offset = at.offset;
  row = row;
  base = base;
}

-- The operation is that of the instruction, by its row with what the constant pool says of its units.
pub record HasOperation (at : Placement) (op : Op) : Type 0 where
  pub row : Row
  pub of_row : IsRowAt at.class.now.pool (with_row at.instruction.now (row_view at.row.now)) row
  pub base : ℕ
  pub lowest : base + length row.pops ≡ at.top
  pub is : IsOp row.action (placed_at at row base) op
