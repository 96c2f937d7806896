use Rattle.lowering_operations.specs.ByAction.{IsOperation}
use Rattle.lowering_operations.specs.Placements.{judged_at, HasOperation}
use Rattle.lowering_operations.proofs.Lifting.{if_ok, has_row, has_operation, not_refused, no_method_constant}
use Rattle.lowering_operations.proofs.operation.operation.Goals as goal

pub operation_by_action-requires-clause-not_refused : goal.operation_by_action-requires-clause-not_refused
operation_by_action-requires-clause-not_refused c = not_refused (judged_at c.args.at) c.requires.free

pub operation_by_action-requires-clause-no_method : goal.operation_by_action-requires-clause-no_method
operation_by_action-requires-clause-no_method c = no_method_constant (judged_at c.args.at) c.requires.free

pub operation_by_action-requires-clause-units : goal.operation_by_action-requires-clause-units
operation_by_action-requires-clause-units c = has_row c.args.at c.requires.row (not_refused (judged_at c.args.at) c.requires.free) c.requires.units

pub returns-clause-operation : goal.returns-clause-operation
returns-clause-operation c =
    let at = c.args.at in
    if_ok c.operation_by_action.result (IsOperation at) (HasOperation at) c.operation_by_action.ensures.operation
    (λ op is. has_operation at op (has_row at c.requires.row (not_refused (judged_at at) c.requires.free) c.requires.units) is)
