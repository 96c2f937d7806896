-- The operations that load constants, of their rows.
use Rattle.std.proofs.Common.{◌≡◌, ℕ, ◌+◌, List, [], ◌∷◌, length, codes, Option, Some, None, option_and_then, refl, sym, ap, ◌∙◌, subst, arith}
use Rattle.std.proofs.lemmas.Option.{same_Some, none-some}
use Rattle.jvm_model.specs.declared.pool.PoolEntry.{PoolEntry}
use Rattle.jvm_model.specs.declared.pool.PoolEntry.TheVariants.{Integer, Float, Class, Str, MethodHandle, MethodType}
use Rattle.jvm_model.specs.Instructions.{constant_row, with_units, RowBy}
use Rattle.jvm_model.specs.Lookups.{entry_at}
use Rattle.jvm_model.specs.RowViews.{row_view}
use Rattle.jvm_model.specs.Table.{Row, row, primitive, a_primitive, the_made, Action, plain, load_constant}
use Rattle.machine_bytecode.specs.Start.{boot_site}
use Rattle.flow_graph.specs.Effects.{with_row}
use Rattle.lowering_reasons.specs.Reasons.{UsesMethodConstant, loads_handle, loads_type}
use Rattle.op_model.specs.declared.op.Move.{Move}
use Rattle.op_model.specs.declared.op.Op.{Op}
use Rattle.op_model.specs.declared.op.Op.TheVariants.{Assign, Constant}
use Rattle.lowering_spec.specs.Moves.{AreMovesOf}
use Rattle.lowering_spec.specs.Operations.{IsOp, of_string, of_class}
use Rattle.lowering_operations.specs.ByAction.{IsRowOf, IsOperation}
use Rattle.lowering_operations.specs.Constants.{constant_class_in, constant_class}
use Rattle.lowering_operations.specs.MoveLists.{cleared_from, moves_of}
use Rattle.lowering_operations.specs.Orders.{IsOrdered}
use Rattle.lowering_operations.specs.Placements.{judged_at, placed_at}
use Rattle.lowering_operations.specs.declared.placement.Placement.{Placement}
use Rattle.lowering_operations.proofs.FieldOperations.{pushes_primitives, pushed_moves}

module _ (at : Placement) (action : (row_view at.row.now).action ≡ load_constant) where
  abbrev listed : Row
  listed = row_view at.row.now

  constant_row_of : (r : Row) → IsRowOf at r → option_and_then (constant_row listed) (entry_at at.class.now.pool at.instruction.now.operand) ≡ Some r
  constant_row_of r is = subst (λ (a : Action). RowBy a at.class.now.pool (with_row at.instruction.now listed) r) action is

  abbrev object_row : Row
  object_row = with_units listed [] (the_made ∷ [])

  -- a row without popped units
  at_top : (r s : Row) (base : ℕ) → s ≡ r → length s.pops ≡ 0 → base + length r.pops ≡ at.top → at.top ≡ base
  at_top r s base same none lowest =
      let count : length r.pops ≡ 0 = ap (λ (x : Row). length x.pops) (sym same) ∙ none in
      omega (arith, count, lowest)

  loaded : (class : List ℕ) (r : Row) (base : ℕ) (op : Op) → object_row ≡ r → base + length r.pops ≡ at.top → op ≡ Constant (boot_site class) at.top
      → ((b : ℕ) → at.top ≡ b → IsOp load_constant (placed_at at object_row b) op) → IsOp r.action (placed_at at r base) op
  loaded class r base op same lowest is made =
      subst (λ (x : Row). IsOp x.action (placed_at at x base) op) same
      (subst (λ (a : Action). IsOp a (placed_at at object_row base) op) (sym action) (made base (at_top r object_row base same refl lowest)))

  loads_by : (class : List ℕ) (op : Op) (o : Option PoolEntry) (r : Row) (base : ℕ) → entry_at at.class.now.pool at.instruction.now.operand ≡ o → option_and_then constant_class_in o ≡ Some class
      → option_and_then (constant_row listed) o ≡ Some r → base + length r.pops ≡ at.top → op ≡ Constant (boot_site class) at.top → IsOp r.action (placed_at at r base) op
  loads_by class op (Some (Str text)) r base stands is of_row lowest told =
      let same : object_row ≡ r = same_Some object_row r of_row in
      let named : codes "java/lang/String" ≡ class = same_Some (codes "java/lang/String") class is in
      loaded class r base op same lowest told (λ b e. (class, of_string text stands (sym named), told ∙ ap (λ (z : ℕ). Constant (boot_site class) z) e))
  loads_by class op (Some (Class name)) r base stands is of_row lowest told =
      let same : object_row ≡ r = same_Some object_row r of_row in
      let named : codes "java/lang/Class" ≡ class = same_Some (codes "java/lang/Class") class is in
      loaded class r base op same lowest told (λ b e. (class, of_class name stands (sym named), told ∙ ap (λ (z : ℕ). Constant (boot_site class) z) e))
  loads_by class op _ r base stands is of_row lowest told = absurd (none-some class is)

  -- a string or a class
  pub loads_object : (pool : List PoolEntry) (class : List ℕ) (op : Op) → pool ≡ at.class.now.pool → Some class ≡ constant_class pool at.instruction.now.operand → op ≡ Constant (boot_site class) at.top → IsOperation at op
  loads_object pool class op same is told = record {
    for_row = λ r of_row base lowest.
        loads_by class op (entry_at at.class.now.pool at.instruction.now.operand) r base refl (ap (λ (p : List PoolEntry). constant_class p at.instruction.now.operand) (sym same) ∙ sym is) (constant_row_of r of_row) lowest told;
  }

  abbrev number_row : Row
  number_row = row listed.mnemonic listed.operands [] (a_primitive ∷ []) [] listed.flow plain listed.raises

  number : (r : Row) (base : ℕ) (moves : List Move) → number_row ≡ r → base + length r.pops ≡ at.top → moves ≡ cleared_from 1 at.top → IsOp r.action (placed_at at r base) (Assign moves)
  number r base moves same lowest is =
      let list : moves ≡ cleared_from 1 base = is ∙ ap (λ (z : ℕ). cleared_from 1 z) (at_top r number_row base same refl lowest) in
      let each = pushes_primitives number_row (primitive ∷ []) at.instruction.now.operand base refl refl refl refl in
      let made : IsOp plain (placed_at at number_row base) (Assign moves) = record { moves = moves; is = refl; each = subst (λ (ms : List Move). AreMovesOf number_row at.instruction.now.operand base ms) (sym list) each } in
      subst (λ (x : Row). IsOp x.action (placed_at at x base) (Assign moves)) same made

  number_by : (moves : List Move) (o : Option PoolEntry) (r : Row) (base : ℕ) → (UsesMethodConstant (judged_at at) → ⊥) → entry_at at.class.now.pool at.instruction.now.operand ≡ o → option_and_then constant_class_in o ≡ None
      → option_and_then (constant_row listed) o ≡ Some r → base + length r.pops ≡ at.top → moves ≡ cleared_from 1 at.top → IsOp r.action (placed_at at r base) (Assign moves)
  number_by moves (Some (Integer bits)) r base unused stands none of_row lowest is = number r base moves (same_Some number_row r of_row) lowest is
  number_by moves (Some (Float bits)) r base unused stands none of_row lowest is = number r base moves (same_Some number_row r of_row) lowest is
  number_by moves (Some (Str text)) r base unused stands none of_row lowest is = absurd (none-some (codes "java/lang/String") (sym none))
  number_by moves (Some (Class name)) r base unused stands none of_row lowest is = absurd (none-some (codes "java/lang/Class") (sym none))
  number_by moves (Some (MethodHandle kind member)) r base unused stands none of_row lowest is = absurd (unused (loads_handle kind member action stands))
  number_by moves (Some (MethodType descriptor)) r base unused stands none of_row lowest is = absurd (unused (loads_type descriptor action stands))
  number_by moves _ r base unused stands none of_row lowest is = absurd (none-some r of_row)

  -- a number
  pub loads_number : (pool : List PoolEntry) (moves : List Move) → pool ≡ at.class.now.pool → (UsesMethodConstant (judged_at at) → ⊥) → None ≡ constant_class pool at.instruction.now.operand → moves ≡ cleared_from 1 at.top
      → IsOperation at (Assign moves)
  loads_number pool moves same unused none is = record {
    for_row = λ r of_row base lowest.
        number_by moves (entry_at at.class.now.pool at.instruction.now.operand) r base unused refl (ap (λ (p : List PoolEntry). constant_class p at.instruction.now.operand) (sym same) ∙ sym none) (constant_row_of r of_row) lowest is;
  }

  -- its moves are those of the row, in their order
  ordered : (r : Row) (base : ℕ) (moves : List Move) → number_row ≡ r → base + length r.pops ≡ at.top → moves ≡ cleared_from 1 at.top → moves ≡ moves_of r at.instruction.now.operand base
  ordered r base moves same lowest is =
      is ∙ ap (λ (z : ℕ). cleared_from 1 z) (at_top r number_row base same refl lowest)
      ∙ sym (pushed_moves number_row (primitive ∷ []) at.instruction.now.operand base refl refl refl refl)
      ∙ ap (λ (x : Row). moves_of x at.instruction.now.operand base) same

  ordered_by : (moves : List Move) (o : Option PoolEntry) (r : Row) (base : ℕ) → (UsesMethodConstant (judged_at at) → ⊥) → entry_at at.class.now.pool at.instruction.now.operand ≡ o → option_and_then constant_class_in o ≡ None
      → option_and_then (constant_row listed) o ≡ Some r → base + length r.pops ≡ at.top → moves ≡ cleared_from 1 at.top → moves ≡ moves_of r at.instruction.now.operand base
  ordered_by moves (Some (Integer bits)) r base unused stands none of_row lowest is = ordered r base moves (same_Some number_row r of_row) lowest is
  ordered_by moves (Some (Float bits)) r base unused stands none of_row lowest is = ordered r base moves (same_Some number_row r of_row) lowest is
  ordered_by moves (Some (Str text)) r base unused stands none of_row lowest is = absurd (none-some (codes "java/lang/String") (sym none))
  ordered_by moves (Some (Class name)) r base unused stands none of_row lowest is = absurd (none-some (codes "java/lang/Class") (sym none))
  ordered_by moves (Some (MethodHandle kind member)) r base unused stands none of_row lowest is = absurd (unused (loads_handle kind member action stands))
  ordered_by moves (Some (MethodType descriptor)) r base unused stands none of_row lowest is = absurd (unused (loads_type descriptor action stands))
  ordered_by moves _ r base unused stands none of_row lowest is = absurd (none-some r of_row)

  pub number_in_order : (pool : List PoolEntry) (moves : List Move) → pool ≡ at.class.now.pool → (UsesMethodConstant (judged_at at) → ⊥) → None ≡ constant_class pool at.instruction.now.operand → moves ≡ cleared_from 1 at.top
      → IsOrdered at (Assign moves)
  number_in_order pool moves same unused none is = record {
    for_row = λ r of_row base lowest.
        ordered_by moves (entry_at at.class.now.pool at.instruction.now.operand) r base unused refl (ap (λ (p : List PoolEntry). constant_class p at.instruction.now.operand) (sym same) ∙ sym none) (constant_row_of r of_row) lowest is;
  }
