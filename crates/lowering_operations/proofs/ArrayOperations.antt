-- The operations that make arrays, of their rows.
use Rattle.std.proofs.Common.{◌≡◌, ℕ, ◌<◌, ◌≤◌, Bool, true, false, not, ◌||◌, eqb, List, length, map, Some, refl, sym, ap, ◌∙◌, subst, arith}
use Rattle.std.proofs.lemmas.Bool.{false≢true, eqb-true}
use Rattle.std.proofs.lemmas.List.{length-replicate}
use Rattle.jvm_model.specs.Instructions.{DecodedInstruction, array_row, RowBy}
use Rattle.jvm_model.specs.RowViews.{row_view}
use Rattle.jvm_model.specs.Table.{Row, row_of, primitive, Operands, pool_2_and_dimensions, Action, make_array}
use Rattle.machine_bytecode.specs.Machine.{NamesArrays}
use Rattle.flow_graph.specs.Effects.{with_row}
use Rattle.op_model.specs.declared.op.Op.{Op}
use Rattle.op_model.specs.declared.op.Op.TheVariants.{NewArray}
use Rattle.lowering_spec.specs.Operations.{IsOp}
use Rattle.lowering_operations.specs.ByAction.{IsRowOf, HasRow, IsOperation, IsArrayOperation, site_at}
use Rattle.lowering_operations.specs.Placements.{placed_at}
use Rattle.lowering_operations.specs.declared.placement.Placement.{Placement}
use Rattle.lowering_operations.proofs.RowFacts.{implied_by, of_row, is_make_array}

abbrev pub is_nested : Operands → Bool
is_nested pool_2_and_dimensions = true
is_nested _ = false

abbrev pops_one : Row → Bool
pops_one r = not (is_make_array r.action) || (is_nested r.operands || eqb (length r.pops) 1)

one_left : (a b : Bool) → (a || b) ≡ true → a ≡ false → b ≡ true
one_left true b e f = absurd (false≢true (sym f))
one_left false b e f = e

-- an array of one dimension has one size
one_size : (opcode : ℕ) (r : Row) → row_of opcode ≡ Some r → r.action ≡ make_array → is_nested r.operands ≡ false → length r.pops ≡ 1
one_size opcode r is a one =
    eqb-true (length r.pops) 1 (one_left (is_nested r.operands) (eqb (length r.pops) 1)
    (implied_by (is_make_array r.action) (is_nested r.operands || eqb (length r.pops) 1) (of_row pops_one opcode r refl is) (ap is_make_array a)) one)

plain_array : (o : Operands) (i : DecodedInstruction) → is_nested o ≡ false → array_row o i ≡ i.row
plain_array pool_2_and_dimensions i e = absurd (false≢true (sym e))
plain_array _ i e = refl

pub array_action : (o : Operands) (i : DecodedInstruction) → (array_row o i).action ≡ i.row.action
array_action pool_2_and_dimensions i = refl
array_action _ i = refl

module _ (at : Placement) (known : row_of at.instruction.now.opcode ≡ Some (row_view at.row.now)) (action : (row_view at.row.now).action ≡ make_array) where
  abbrev listed : Row
  listed = row_view at.row.now

  abbrev here : DecodedInstruction
  here = with_row at.instruction.now listed

  array_row_of : (row : Row) → IsRowOf at row → row ≡ array_row listed.operands here
  array_row_of row is = subst (λ (a : Action). RowBy a at.class.now.pool here row) action is

  -- the sizes that are popped
  abbrev Pops : ℕ → Type 0
  Pops units = (row : Row) → IsRowOf at row → length row.pops ≡ units

  pub pops_size : is_nested listed.operands ≡ false → Pops 1
  pops_size one row is = ap (λ (r : Row). length r.pops) (array_row_of row is ∙ plain_array listed.operands here one) ∙ one_size at.instruction.now.opcode listed known action one

  pub pops_sizes : listed.operands ≡ pool_2_and_dimensions → Pops at.instruction.now.dimensions
  pops_sizes nested row is =
      ap (λ (r : Row). length r.pops) (array_row_of row is ∙ ap (λ (o : Operands). array_row o here) nested) ∙ length-replicate at.instruction.now.dimensions primitive

  pub has_size : is_nested listed.operands ≡ false → HasRow at → 0 < at.top
  has_size one has = let enough = has.enough in let pops = pops_size one has.row has.of_row in omega (arith, enough, pops)

  pub has_sizes : listed.operands ≡ pool_2_and_dimensions → HasRow at → at.instruction.now.dimensions ≤ at.top
  has_sizes nested has = let enough = has.enough in let pops = pops_sizes nested has.row has.of_row in omega (arith, enough, pops)

  pub makes_arrays : (units : ℕ) (arrays : List (List ℕ)) (op : Op) → Pops units → NamesArrays at.class.now.pool here arrays → IsArrayOperation at units arrays op → IsOperation at op
  makes_arrays units arrays op pops names is = record {
    for_row = λ row of_row base lowest.
        (let same : row.action ≡ make_array = ap (λ (r : Row). r.action) (array_row_of row of_row) ∙ array_action listed.operands here ∙ action in
        let count = pops row of_row in
        let there = is.lowest in
        let bases : is.base ≡ base = omega (arith, count, there, lowest) in
        let at_base : op ≡ NewArray (map (site_at at) arrays) base = is.is ∙ ap (λ (z : ℕ). NewArray (map (site_at at) arrays) z) bases in
        let made : IsOp make_array (placed_at at row base) op = (arrays, names, at_base) in
        subst (λ (a : Action). IsOp a (placed_at at row base) op) (sym same) made);
  }
