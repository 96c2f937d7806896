-- The judgement of an instruction as that of its step.
use Rattle.std.proofs.Common.{◌≡◌, List, Option, Some, sym, ap, ◌∙◌}
use Rattle.std.specs.List.{Contains, slice_get}
use Rattle.std.proofs.lemmas.Option.{same_Some}
use Rattle.jvm_model.specs.declared.code.PlacedInstruction.{PlacedInstruction}
use Rattle.jvm_model.specs.declared.pool.PoolEntry.{PoolEntry}
use Rattle.jvm_model.specs.declared.reason.Reason.{Reason}
use Rattle.jvm_model.specs.Programs.{Method}
use Rattle.jvm_model.specs.Table.{Row, row_of}
use Rattle.program_model.specs.Numbers.{name_at}
use Rattle.flow_graph.specs.declared.steps.GraphStep.{GraphStep}
use Rattle.lowering_reasons.specs.Reasons.{Judged, IsFirstReason}
use Rattle.lowering.specs.Bodies.{HasFirst, IsMethodCode}
use Rattle.lowering.specs.declared.body.MethodCode.{MethodCode}

-- the instruction with the row of its opcode
abbrev pub judged_with : MethodCode → List PoolEntry → PlacedInstruction → Row → Judged
judged_with b pool p row = record {
  program = b.program.now;
  current = name_at b.program.now b.current.0;
  pool = pool;
  action = row.action;
  operands = row.operands;
  operand = p.instruction.operand;
}

-- what is first of the judged instruction is first at its step
pub first_at : (b : MethodCode) (known : IsMethodCode b) (step : GraphStep) (pool : List PoolEntry) (p : PlacedInstruction) (row : Row) (first : Option Reason) → pool ≡ b.class.now.pool
    → Contains b.code.now.instructions p → p.offset ≡ step.offset → row_of p.instruction.opcode ≡ Some row → IsFirstReason (judged_with b pool p row) first → HasFirst b step first
first_at b known step pool p row first same there offset of_opcode is = λ m stands. record {
  judged = judged_with b pool p row;
  at = record {
    placed = p;
    stands = there;
    offset = offset;
    row = row;
    of_opcode = of_opcode;
    is = λ i. record {
      program = b.program.now;
      current = class m stands i;
      pool = same i;
      action = row.action;
      operands = row.operands;
      operand = p.instruction.operand;
    };
  };
  is = is;
}
  where
    class : (m : Method) → slice_get b.program.now.methods b.method.0 ≡ Some m → name_at b.program.now b.current.0 ≡ m.class
    class m stands = known.of_class ∙ ap (λ (n : Method). n.class) (same_Some known.method m (sym known.stands ∙ stands))
