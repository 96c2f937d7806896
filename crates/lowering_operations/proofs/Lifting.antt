-- From the operation of a row to that of an instruction.
use Rattle.std.proofs.Common.{◌≡◌, inl, inr, ℕ, ◌+◌, ◌-◌, true, List, ◌∷◌, length, drop, Some, None, Result, Ok, Err, IfOk, refl, sym, ap, ◌∙◌, subst, arith}
use Rattle.std.proofs.lemmas.Bool.{false≢true}
use Rattle.std.proofs.lemmas.List.{length-map}
use Rattle.std.proofs.lemmas.Option.{same_Some}
use Rattle.jvm_model.specs.declared.code.Instruction.{Instruction as Given}
use Rattle.jvm_model.specs.declared.pool.PoolEntry.{PoolEntry}
use Rattle.jvm_model.specs.declared.reason.Reason.{Reason}
use Rattle.jvm_model.specs.declared.reason.Reason.TheVariants as reasons
use Rattle.jvm_model.specs.declared.site.Site.{Site}
use Rattle.jvm_model.specs.Instructions.{DecodedInstruction, RowBy}
use Rattle.jvm_model.specs.RowViews.{row_view, kind_view}
use Rattle.jvm_model.specs.Table.{Row, row_of, Action, plain, load_element, store_element, probe_element, probe_array, probe_object, make_object, throw_object, cast, leave_method, refused}
use Rattle.flow_graph.specs.Effects.{with_row, IsRowEffect, IsEffectBy}
use Rattle.op_model.specs.declared.op.Op.{Op}
use Rattle.op_model.specs.declared.op.Op.TheVariants.{Constant}
use Rattle.lowering_spec.specs.Operations.{IsOp}
use Rattle.lowering_reasons.specs.Reasons.{Judged, HasReason, dynamic, method_constant, IsFirstOf, IsFirstReason, reason_order, UsesMethodConstant}
use Rattle.flow_graph.specs.declared.effect.Effect.{Effect}
use Rattle.lowering_operations.specs.ByAction.{IsRowOf, HasRow, IsOperation, IsTableOperation, IsArrayOperation, is_of_table}
use Rattle.lowering_operations.specs.Orders.{IsOrderedOp, IsOrdered}
use Rattle.lowering_operations.specs.Placements.{placed_at, HasUnitsBelow, HasOperation}
use Rattle.lowering_operations.specs.declared.placement.Placement.{Placement}

-- what follows of each value that was made
pub if_ok : {T E : Type 0} (r : Result T E) (P Q : T → Type 0) → IfOk r P → ((x : T) → P x → Q x) → IfOk r Q
if_ok (Ok x) P Q h more = more x h
if_ok (Err e) P Q h more = tt

-- ---- rows that the table has

table_row : (a : Action) (pool : List PoolEntry) (i : DecodedInstruction) (r : Row) → is_of_table a ≡ true → RowBy a pool i r → r ≡ i.row
table_row plain pool i r h is = is
table_row load_element pool i r h is = is
table_row store_element pool i r h is = is
table_row probe_element pool i r h is = is
table_row probe_array pool i r h is = is
table_row probe_object pool i r h is = is
table_row make_object pool i r h is = is
table_row throw_object pool i r h is = is
table_row cast pool i r h is = is
table_row leave_method pool i r h is = is
table_row _ pool i r h is = absurd (false≢true h)

-- the units that the table's row pops
pub table_pops : (at : Placement) (row : Row) → is_of_table (row_view at.row.now).action ≡ true → IsRowOf at row → length row.pops ≡ length at.row.now.pops.now
table_pops at row h is =
    ap (λ (r : Row). length r.pops) (table_row (row_view at.row.now).action at.class.now.pool (with_row at.instruction.now (row_view at.row.now)) row h is) ∙ length-map at.row.now.pops.now kind_view

pub lift_table : (at : Placement) (base : ℕ) (op : Op) → is_of_table (row_view at.row.now).action ≡ true → base + length at.row.now.pops.now ≡ at.top → IsTableOperation at base op → IsOperation at op
lift_table at base op h lowest is = record {
  for_row = λ row of_row other e.
      (let same : row ≡ row_view at.row.now = table_row (row_view at.row.now).action at.class.now.pool (with_row at.instruction.now (row_view at.row.now)) row h of_row in
      let bases : base ≡ other = omega (arith, table_pops at row h of_row, lowest, e) in
      subst (λ (r : Row). IsOp r.action (placed_at at r other) op) (sym same) (subst (λ (z : ℕ). IsOp (row_view at.row.now).action (placed_at at (row_view at.row.now) z) op) bases is));
}

pub order_table : (at : Placement) (base : ℕ) (op : Op) → is_of_table (row_view at.row.now).action ≡ true → base + length at.row.now.pops.now ≡ at.top → IsOrderedOp (row_view at.row.now) at.instruction.now.operand base op → IsOrdered at op
order_table at base op h lowest is = record {
  for_row = λ row of_row other e.
      (let same : row ≡ row_view at.row.now = table_row (row_view at.row.now).action at.class.now.pool (with_row at.instruction.now (row_view at.row.now)) row h of_row in
      let bases : base ≡ other = omega (arith, table_pops at row h of_row, lowest, e) in
      subst (λ (r : Row). IsOrderedOp r at.instruction.now.operand other op) (sym same) (subst (λ (z : ℕ). IsOrderedOp (row_view at.row.now) at.instruction.now.operand z op) bases is));
}

-- ---- operations without moves

pub arrays_in_order : (at : Placement) (units : ℕ) (arrays : List (List ℕ)) (op : Op) → IsArrayOperation at units arrays op → IsOrdered at op
arrays_in_order at units arrays op is = record { for_row = λ row of_row base lowest. subst (λ (o : Op). IsOrderedOp row at.instruction.now.operand base o) (sym is.is) tt }

pub constant_in_order : (at : Placement) (op : Op) (site : Site) (target : ℕ) → op ≡ Constant site target → IsOrdered at op
constant_in_order at op site target is = record { for_row = λ row of_row base lowest. subst (λ (o : Op). IsOrderedOp row at.instruction.now.operand base o) (sym is) tt }

-- ---- that an instruction has a row

row_effect : (a : Action) (pool : List PoolEntry) (i : Given) (r : Row) (e : Effect) → (a ≡ refused → ⊥) → IsEffectBy a pool i r e → IsRowEffect pool i r e
row_effect refused pool i r e ne is = absurd (ne refl)
row_effect _ pool i r e ne is = is

pub has_row : (at : Placement) → row_of at.instruction.now.opcode ≡ Some (row_view at.row.now) → ((row_view at.row.now).action ≡ refused → ⊥) → HasUnitsBelow at → HasRow at
has_row at is ne units =
    let same : units.has.row ≡ row_view at.row.now = same_Some units.has.row (row_view at.row.now) (sym units.has.of_opcode ∙ is) in
    let by : IsEffectBy (row_view at.row.now).action at.class.now.pool at.instruction.now (row_view at.row.now) units.effect =
    subst (λ (r : Row). IsEffectBy r.action at.class.now.pool at.instruction.now r units.effect) same units.has.is_effect in
    let effect = row_effect (row_view at.row.now).action at.class.now.pool at.instruction.now (row_view at.row.now) units.effect ne by in
    let pops : units.effect.pops ≡ length effect.resolved.pops = ap (λ (e : Effect). e.pops) effect.effect_is in
    let enough = units.enough in
    record { row = effect.resolved; of_row = effect.is_row; enough = omega (arith, pops, enough) }

pub has_operation : (at : Placement) (op : Op) → HasRow at → IsOperation at op → HasOperation at op
has_operation at op has is =
    let enough = has.enough in
    let lowest : (at.top - length has.row.pops) + length has.row.pops ≡ at.top = omega (arith, enough) in
    record { row = has.row; of_row = has.of_row; base = at.top - length has.row.pops; lowest = lowest; is = is.for_row has.row has.of_row (at.top - length has.row.pops) lowest }

-- ---- reasons that do not hold

not_first : (j : Judged) (reason : Reason) (others : List Reason) → IsFirstOf j (reason ∷ others) None → (HasReason j reason → ⊥) × IsFirstOf j others None
not_first j reason others (inl (has, e)) = absurd cc
not_first j reason others (inr rest) = rest

pub not_refused : (j : Judged) → IsFirstReason j None → j.action ≡ refused → ⊥
not_refused j free is = (not_first j reasons.InvokeDynamic (drop 1 reason_order) free).0 (dynamic refl is)

pub no_method_constant : (j : Judged) → IsFirstReason j None → UsesMethodConstant j → ⊥
no_method_constant j free uses = (not_first j reasons.MethodConstant (drop 2 reason_order) (not_first j reasons.InvokeDynamic (drop 1 reason_order) free).1).0 (method_constant refl uses)
