use Rattle.std.proofs.Common.{◌≡◌, ◌+◌, ◌-◌, length, arith}
use Rattle.jvm_model.specs.RowViews.{row_view}
use Rattle.lowering_operations.specs.ByAction.{IsOperation, IsTableOperation}
use Rattle.lowering_operations.specs.Orders.{IsOrderedOp, IsOrdered}
use Rattle.lowering_operations.proofs.Lifting.{if_ok, table_pops, lift_table, order_table}
use Rattle.lowering_operations.proofs.RowFacts.{class_operands, class_named}
use Rattle.lowering_operations.proofs.table.table_operation.Goals as goal

pub operation_from-requires-clause-named : goal.operation_from-requires-clause-named
operation_from-requires-clause-named c = λ h.
    (let at = c.args.at in
    let r = row_view at.row.now in
    class_named at.class.now at.instruction.now r c.requires.sound c.requires.row (class_operands at.instruction.now.opcode r c.requires.row h))

pub returns-clause-operation : goal.returns-clause-operation
returns-clause-operation c =
    let at = c.args.at in
    let base = at.top - length at.row.now.pops.now in
    let enough = c.requires.units.enough in
    let pops = table_pops at c.requires.units.row c.requires.action c.requires.units.of_row in
    let lowest : base + length at.row.now.pops.now ≡ at.top = omega (arith, enough, pops) in
    if_ok c.operation_from.result (IsTableOperation at base) (IsOperation at) c.operation_from.ensures.operation (λ op is. lift_table at base op c.requires.action lowest is)

pub returns-clause-order : goal.returns-clause-order
returns-clause-order c =
    let at = c.args.at in
    let base = at.top - length at.row.now.pops.now in
    let enough = c.requires.units.enough in
    let pops = table_pops at c.requires.units.row c.requires.action c.requires.units.of_row in
    let lowest : base + length at.row.now.pops.now ≡ at.top = omega (arith, enough, pops) in
    if_ok c.operation_from.result (IsOrderedOp (row_view at.row.now) at.instruction.now.operand base) (IsOrdered at) c.operation_from.ensures.order (λ op is. order_table at base op c.requires.action lowest is)
