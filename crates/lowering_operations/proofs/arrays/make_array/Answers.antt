use Rattle.std.proofs.Common.{ℕ, List, [], ◌∷◌, refl, ap, ◌∙◌}
use Rattle.jvm_model.specs.RowViews.{row_view, operands_view}
use Rattle.machine_bytecode.specs.Machine.{NamesClass, of_primitives, of_references, nested, nested_arrays}
use Rattle.lowering_operations.specs.ByAction.{IsOperation, IsArrayOperation}
use Rattle.lowering_operations.proofs.ArrayOperations.{is_nested, pops_size, pops_sizes, has_size, makes_arrays}
use Rattle.lowering_operations.specs.Orders.{IsOrdered}
use Rattle.lowering_operations.proofs.Lifting.{if_ok, arrays_in_order}
use Rattle.lowering_operations.proofs.RowFacts.{is_class_operands, array_of_references, class_named}
use Rattle.lowering_operations.proofs.arrays.make_array.Goals as goal

pub one_array-requires : goal.one_array-requires
one_array-requires c = has_size c.args.at c.requires.row c.requires.action (ap (λ o. is_nested (operands_view o)) c.in-TypeCode.is) c.requires.units

pub class_at-array-requires-clause-there : goal.class_at-array-requires-clause-there
class_at-array-requires-clause-there c =
    let at = c.args.at in
    class_named at.class.now at.instruction.now (row_view at.row.now) c.requires.sound c.requires.row (ap (λ o. is_class_operands (operands_view o)) c.in-Pool2AndDimensions.is)

pub class_at-element-requires-clause-there : goal.class_at-element-requires-clause-there
class_at-element-requires-clause-there c =
    let at = c.args.at in
    let r = row_view at.row.now in
    let is = array_of_references at.instruction.now.opcode r at.row.now.operands c.requires.row c.requires.action refl c.in_default.not-TypeCode c.in_default.not-Pool2AndDimensions in
    class_named at.class.now at.instruction.now r c.requires.sound c.requires.row (ap is_class_operands is)

pub one_array-requires-in_default : goal.one_array-requires-in_default
one_array-requires-in_default c =
    let at = c.args.at in
    let is = array_of_references at.instruction.now.opcode (row_view at.row.now) at.row.now.operands c.requires.row c.requires.action refl c.in_default.not-TypeCode c.in_default.not-Pool2AndDimensions in
    has_size at c.requires.row c.requires.action (ap is_nested is) c.requires.units

pub returns-in-TypeCode-clause-operation : goal.returns-in-TypeCode-clause-operation
returns-in-TypeCode-clause-operation c =
    let at = c.args.at in
    let array = c.primitive_array.result.now in
    if_ok c.one_array.result (IsArrayOperation at 1 (array ∷ [])) (IsOperation at) c.one_array.ensures
    (λ op is. makes_arrays at c.requires.row c.requires.action 1 (array ∷ []) op (pops_size at c.requires.row c.requires.action (ap (λ o. is_nested (operands_view o)) c.in-TypeCode.is))
    (of_primitives (ap operands_view c.in-TypeCode.is) (ap (λ (x : List ℕ). x ∷ []) c.primitive_array.ensures)) is)

pub returns-in-Pool2AndDimensions-clause-operation : goal.returns-in-Pool2AndDimensions-clause-operation
returns-in-Pool2AndDimensions-clause-operation c =
    let at = c.args.at in
    let arrays = nested_arrays at.instruction.now.dimensions c.class_at-array.result.now in
    let names : NamesClass at.class.now.pool at.instruction.now.operand = record { class = c.class_at-array.result.now; named = c.class_at-array.ensures } in
    if_ok c.nested.result (IsArrayOperation at at.instruction.now.dimensions arrays) (IsOperation at) c.nested.ensures
    (λ op is. makes_arrays at c.requires.row c.requires.action at.instruction.now.dimensions arrays op (pops_sizes at c.requires.row c.requires.action (ap operands_view c.in-Pool2AndDimensions.is))
    (nested (ap operands_view c.in-Pool2AndDimensions.is) names refl) is)

pub returns-in_ok-array-in_default-clause-operation : goal.returns-in_ok-array-in_default-clause-operation
returns-in_ok-array-in_default-clause-operation c =
    let at = c.args.at in
    let array = c.deref.result.now in
    let names : NamesClass at.class.now.pool at.instruction.now.operand = record { class = c.class_at-element.result.now; named = c.class_at-element.ensures } in
    let is = array_of_references at.instruction.now.opcode (row_view at.row.now) at.row.now.operands c.requires.row c.requires.action refl c.in_default.not-TypeCode c.in_default.not-Pool2AndDimensions in
    if_ok c.one_array-in_default.result (IsArrayOperation at 1 (array ∷ [])) (IsOperation at) c.one_array-in_default.ensures
    (λ op told. makes_arrays at c.requires.row c.requires.action 1 (array ∷ []) op (pops_size at c.requires.row c.requires.action (ap is_nested is))
    (of_references is names (ap (λ (x : List ℕ). x ∷ []) (c.deref.ensures.value ∙ c.in_ok-array-in_default.ensures))) told)

pub returns-in-TypeCode-clause-order : goal.returns-in-TypeCode-clause-order
returns-in-TypeCode-clause-order c =
    let at = c.args.at in
    let arrays = c.primitive_array.result.now ∷ [] in
    if_ok c.one_array.result (IsArrayOperation at 1 arrays) (IsOrdered at) c.one_array.ensures (λ op is. arrays_in_order at 1 arrays op is)

pub returns-in-Pool2AndDimensions-clause-order : goal.returns-in-Pool2AndDimensions-clause-order
returns-in-Pool2AndDimensions-clause-order c =
    let at = c.args.at in
    let count = at.instruction.now.dimensions in
    let arrays = nested_arrays count c.class_at-array.result.now in
    if_ok c.nested.result (IsArrayOperation at count arrays) (IsOrdered at) c.nested.ensures (λ op is. arrays_in_order at count arrays op is)

pub returns-in_ok-array-in_default-clause-order : goal.returns-in_ok-array-in_default-clause-order
returns-in_ok-array-in_default-clause-order c =
    let at = c.args.at in
    let arrays = c.deref.result.now ∷ [] in
    if_ok c.one_array-in_default.result (IsArrayOperation at 1 arrays) (IsOrdered at) c.one_array-in_default.ensures (λ op is. arrays_in_order at 1 arrays op is)
