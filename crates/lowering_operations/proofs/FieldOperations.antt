-- The operations on fields, of their rows.
use Rattle.std.proofs.Common.{◌≡◌, ℕ, suc, ◌+◌, ◌-◌, Bool, true, false, ◌&&◌, ◌||◌, cond, eqb, List, [], ◌∷◌, ◌++◌, length, map, Some, MatchBool, refl, sym, ap, ◌∙◌, subst, arith}
use Rattle.std.specs.List.{list_all}
use Rattle.std.proofs.lemmas.Bool.{false≢true}
use Rattle.std.proofs.lemmas.List.{append-nil}
use Rattle.std.proofs.lemmas.Option.{same_Some}
use Rattle.jvm_model.specs.declared.number.FieldNo.{FieldNo}
use Rattle.jvm_model.specs.Instructions.{kinds_of, made_for, with_units, IsFieldRow, RowBy}
use Rattle.jvm_model.specs.Lookups.{Signature, MemberReference}
use Rattle.jvm_model.specs.RowViews.{row_view}
use Rattle.jvm_model.specs.Table.{Row, row_of, UnitKind, any_kind, primitive, reference, UnitSource, Action, get_static, put_static, get_field, put_field, is_field_access}
use Rattle.machine_bytecode.specs.States.{is_reference_kind, is_reference_type}
use Rattle.flow_graph.specs.Effects.{with_row}
use Rattle.lowering_reasons.specs.Reasons.{wants_static}
use Rattle.op_model.specs.declared.op.Move.{Move}
use Rattle.op_model.specs.declared.op.Op.{Op}
use Rattle.op_model.specs.declared.op.Source.TheVariants as sources
use Rattle.op_model.specs.declared.op.Op.TheVariants.{Assign, Load, Store, LoadStatic, StoreStatic, Probe}
use Rattle.lowering_spec.specs.Moves.{AreMovesOf}
use Rattle.lowering_spec.specs.Operations.{IsOp, IsAssign, field_no}
use Rattle.lowering_operations.specs.ByAction.{IsRowOf, IsOperation, AccessesField}
use Rattle.lowering_operations.specs.MoveLists.{moves_from, cleared_from, moves_of}
use Rattle.lowering_operations.specs.Orders.{IsOrdered}
use Rattle.lowering_operations.specs.Placements.{placed_at}
use Rattle.lowering_operations.specs.declared.access.Access.{Access}
use Rattle.lowering_operations.specs.declared.placement.Placement.{Placement}
use Rattle.lowering_operations.proofs.MovesMade.{is_read, makes_nothing, are_moves_of}
use Rattle.lowering_operations.proofs.RowFacts.{no_stores}

-- ---- primitives

abbrev pub is_primitive : UnitKind → Bool
is_primitive any_kind = false
is_primitive primitive = true
is_primitive reference = false

by_tests : (a b d : Bool) → is_reference_kind (cond a (primitive ∷ primitive ∷ []) (cond b (reference ∷ []) (cond d [] (primitive ∷ [])))) ≡ false
    → list_all is_primitive (cond a (primitive ∷ primitive ∷ []) (cond b (reference ∷ []) (cond d [] (primitive ∷ [])))) ≡ true
by_tests true b d e = refl
by_tests false true d e = absurd cc
by_tests false false true e = refl
by_tests false false false e = refl

-- a value of no reference type has primitives
pub all_primitive : (text : List ℕ) → is_reference_type text ≡ false → list_all is_primitive (kinds_of text) ≡ true
all_primitive [] e = refl
all_primitive (letter ∷ rest) e = by_tests (eqb letter 74 || eqb letter 68) (eqb letter 76 || eqb letter 91) (eqb letter 86) e

made_moves : (kinds : List UnitKind) (operand base z : ℕ) → list_all is_primitive kinds ≡ true → moves_from operand base z (map made_for kinds) ≡ cleared_from (length kinds) z
made_moves [] operand base z e = refl
made_moves (any_kind ∷ kinds) operand base z e = absurd (false≢true e)
made_moves (primitive ∷ kinds) operand base z e = ap (λ (ms : List Move). record { source = sources.Primitive; target = z } ∷ ms) (made_moves kinds operand base (z + 1) e)
made_moves (reference ∷ kinds) operand base z e = absurd (false≢true e)

made_read : (kinds : List UnitKind) → list_all is_primitive kinds ≡ true → list_all is_read (map made_for kinds) ≡ true
made_read [] e = refl
made_read (any_kind ∷ kinds) e = absurd (false≢true e)
made_read (primitive ∷ kinds) e = made_read kinds e
made_read (reference ∷ kinds) e = absurd (false≢true e)

-- ---- rows whose moves clear slots

abbrev moves_by : ℕ → ℕ → List UnitSource → List UnitSource → ℕ → List Move
moves_by operand base stores pushes pops = (moves_from operand base operand stores ++ moves_from operand base base pushes) ++ cleared_from (pops - length pushes) (base + length pushes)

by_parts : (operand base : ℕ) (stores stores2 pushes pushes2 : List UnitSource) (pops pops2 : ℕ) → stores ≡ stores2 → pushes ≡ pushes2 → pops ≡ pops2 → moves_by operand base stores pushes pops ≡ moves_by operand base stores2 pushes2 pops2
by_parts operand base stores stores2 pushes pushes2 pops pops2 s p q =
    ap (λ (x : List UnitSource). moves_by operand base x pushes pops) s ∙ ap (λ (x : List UnitSource). moves_by operand base stores2 x pops) p ∙ ap (λ (x : ℕ). moves_by operand base stores2 pushes2 x) q

reads_by : (r : Row) (pushes : List UnitSource) → r.stores ≡ [] → r.pushes ≡ pushes → list_all is_read pushes ≡ true → makes_nothing r ≡ true
reads_by r pushes s p e = ap (λ (x : List UnitSource). list_all is_read x && list_all is_read r.pushes) s ∙ ap (λ (x : List UnitSource). list_all is_read x) p ∙ e

-- primitives are pushed, and nothing is popped
pub pushed_moves : (r : Row) (kinds : List UnitKind) (operand base : ℕ) → r.stores ≡ [] → r.pops ≡ [] → r.pushes ≡ map made_for kinds → list_all is_primitive kinds ≡ true → moves_of r operand base ≡ cleared_from (length kinds) base
pushed_moves r kinds operand base s q p e =
    let made = moves_from operand base base (map made_for kinds) in
    let none : 0 - length (map made_for kinds) ≡ 0 = omega arith in
    by_parts operand base r.stores [] r.pushes (map made_for kinds) (length r.pops) 0 s p (ap (λ (ks : List UnitKind). length ks) q)
    ∙ ap (λ (n : ℕ). made ++ cleared_from n (base + length (map made_for kinds))) none
    ∙ append-nil made
    ∙ made_moves kinds operand base base e

pub pushes_primitives : (r : Row) (kinds : List UnitKind) (operand base : ℕ) → r.stores ≡ [] → r.pops ≡ [] → r.pushes ≡ map made_for kinds → list_all is_primitive kinds ≡ true → AreMovesOf r operand base (cleared_from (length kinds) base)
pushes_primitives r kinds operand base s q p e =
    subst (λ (ms : List Move). AreMovesOf r operand base ms) (pushed_moves r kinds operand base s q p e) (are_moves_of r operand base (reads_by r (map made_for kinds) s p (made_read kinds e)))

-- units are popped, and nothing is pushed
popped_moves : (r : Row) (count operand base : ℕ) → r.stores ≡ [] → r.pushes ≡ [] → length r.pops ≡ count → moves_of r operand base ≡ cleared_from count base
popped_moves r count operand base s p q =
    let all : count - 0 ≡ count = omega arith in
    let from : base + 0 ≡ base = omega arith in
    by_parts operand base r.stores [] r.pushes [] (length r.pops) count s p q ∙ ap (λ (n : ℕ). cleared_from n (base + 0)) all ∙ ap (λ (z : ℕ). cleared_from count z) from

pub pops_units : (r : Row) (count operand base : ℕ) → r.stores ≡ [] → r.pushes ≡ [] → length r.pops ≡ count → AreMovesOf r operand base (cleared_from count base)
pops_units r count operand base s p q =
    subst (λ (ms : List Move). AreMovesOf r operand base ms) (popped_moves r count operand base s p q) (are_moves_of r operand base (reads_by r [] s p refl))

-- ---- the row of an access

module _ (at : Placement) where
  abbrev listed : Row
  listed = row_view at.row.now

  of_action : (a : Action) (row : Row) → listed.action ≡ a → IsRowOf at row → RowBy a at.class.now.pool (with_row at.instruction.now listed) row
  of_action a row e is = subst (λ (b : Action). RowBy b at.class.now.pool (with_row at.instruction.now listed) row) e is

  access_row : (wants : Bool) (a : Access) (access : AccessesField at wants a) (pops : List UnitKind → List UnitKind) (pushes : List UnitKind → List UnitSource) (row : Row)
      → IsFieldRow at.class.now.pool (with_row at.instruction.now listed) pops pushes row
      → row ≡ with_units listed (pops (kinds_of access.names.field.signature.descriptor)) (pushes (kinds_of access.names.field.signature.descriptor))
  access_row wants a access pops pushes row x =
      let fields : x.field ≡ access.names.named = same_Some x.field access.names.named (sym x.named ∙ access.names.is_named) in
      let signatures : x.field.signature ≡ access.names.field.signature = ap (λ (m : MemberReference). m.signature) fields ∙ sym access.as_named in
      x.row_is ∙ ap (λ (s : Signature). with_units listed (pops (kinds_of s.descriptor)) (pushes (kinds_of s.descriptor))) signatures

  -- an operation of such a row is one of the instruction
  lift_row : (a : Action) (op : Op) (row units_row : Row) (base : ℕ) → listed.action ≡ a → units_row.action ≡ listed.action → row ≡ units_row → IsOp a (placed_at at units_row base) op → IsOp row.action (placed_at at row base) op
  lift_row a op row units_row base e same is_row is =
      subst (λ (r : Row). IsOp r.action (placed_at at r base) op) (sym is_row) (subst (λ (b : Action). IsOp b (placed_at at units_row base) op) (sym (same ∙ e)) is)

  by_kind : (wants : Bool) (a : Access) (access : AccessesField at wants a) (of_reference : FieldNo → Op) (op other : Op) → op ≡ (cond a.is_reference (of_reference a.field) other)
      → op ≡ (cond (is_reference_type access.names.field.signature.descriptor) (of_reference (field_no access.names.number)) other)
  by_kind wants a access of_reference op other e =
      e ∙ ap (λ (b : Bool). cond b (of_reference a.field) other) access.is_reference
      ∙ ap (λ (n : ℕ). cond (is_reference_type access.names.field.signature.descriptor) (of_reference (field_no n)) other) (sym access.number)

  wanted : (a : Access) (action : Action) → listed.action ≡ action → AccessesField at (wants_static listed.action) a → AccessesField at (wants_static action) a
  wanted a action e access = subst (λ (b : Action). AccessesField at (wants_static b) a) e access

  pub gets_field : (a : Access) (op : Op) → listed.action ≡ get_field → AccessesField at (wants_static listed.action) a → op ≡ cond a.is_reference (Load (at.top - 1) a.field (at.top - 1)) (Probe (at.top - 1)) → IsOperation at op
  gets_field a op e access is = record {
    for_row = λ row of_row base lowest.
        (let acc = wanted a get_field e access in
        let units = with_units listed (reference ∷ []) (map made_for (kinds_of acc.names.field.signature.descriptor)) in
        let same : row ≡ units = access_row false a acc (λ value. reference ∷ []) (map made_for) row (of_action get_field row e of_row) in
        let one : length row.pops ≡ 1 = ap (λ (r : Row). length r.pops) same in
        let bases : at.top - 1 ≡ base = omega (arith, one, lowest) in
        let at_base : op ≡ cond a.is_reference (Load base a.field base) (Probe base) = subst (λ (z : ℕ). op ≡ cond a.is_reference (Load z a.field z) (Probe z)) bases is in
        lift_row get_field op row units base e refl same (record { names = acc.names; is = by_kind false a acc (λ field. Load base field base) op (Probe base) at_base }));
  }

  pub puts_field : (a : Access) (op : Op) → listed.action ≡ put_field → AccessesField at (wants_static listed.action) a
      → op ≡ cond a.is_reference (Store (at.top - 1 - a.units) a.field (at.top - 1 - a.units + 1)) (Probe (at.top - 1 - a.units)) → IsOperation at op
  puts_field a op e access is = record {
    for_row = λ row of_row base lowest.
        (let acc = wanted a put_field e access in
        let value = kinds_of acc.names.field.signature.descriptor in
        let units = with_units listed (reference ∷ value) [] in
        let same : row ≡ units = access_row false a acc (λ value. reference ∷ value) (λ value. []) row (of_action put_field row e of_row) in
        let pops : length row.pops ≡ suc (length value) = ap (λ (r : Row). length r.pops) same in
        let count : a.units ≡ length value = acc.units in
        let bases : at.top - 1 - a.units ≡ base = omega (arith, pops, count, lowest) in
        let at_base : op ≡ cond a.is_reference (Store base a.field (base + 1)) (Probe base) = subst (λ (z : ℕ). op ≡ cond a.is_reference (Store z a.field (z + 1)) (Probe z)) bases is in
        lift_row put_field op row units base e refl same (record { names = acc.names; is = by_kind false a acc (λ field. Store base field (base + 1)) op (Probe base) at_base }));
  }

  -- a static field of a reference type
  pub gets_static : (a : Access) (op : Op) → listed.action ≡ get_static → AccessesField at (wants_static listed.action) a → a.is_reference ≡ true → op ≡ LoadStatic a.field at.top → IsOperation at op
  gets_static a op e access refers is = record {
    for_row = λ row of_row base lowest.
        (let acc = wanted a get_static e access in
        let units = with_units listed [] (map made_for (kinds_of acc.names.field.signature.descriptor)) in
        let same : row ≡ units = access_row true a acc (λ value. []) (map made_for) row (of_action get_static row e of_row) in
        let none : length row.pops ≡ 0 = ap (λ (r : Row). length r.pops) same in
        let bases : at.top ≡ base = omega (arith, none, lowest) in
        let told : op ≡ LoadStatic (field_no acc.names.number) base = is ∙ ap (λ (n : ℕ). LoadStatic (field_no n) at.top) (sym acc.number) ∙ ap (λ (z : ℕ). LoadStatic (field_no acc.names.number) z) bases in
        let by_type : is_reference_type acc.names.field.signature.descriptor ≡ true = sym acc.is_reference ∙ refers in
        lift_row get_static op row units base e refl same (record {
          names = acc.names;
          is = subst (λ (b : Bool). MatchBool b (op ≡ LoadStatic (field_no acc.names.number) base) (IsAssign (placed_at at units base) op)) (sym by_type) told;
        }));
  }

  pub puts_static : (a : Access) (op : Op) → listed.action ≡ put_static → AccessesField at (wants_static listed.action) a → a.is_reference ≡ true → op ≡ StoreStatic a.field (at.top - a.units) → IsOperation at op
  puts_static a op e access refers is = record {
    for_row = λ row of_row base lowest.
        (let acc = wanted a put_static e access in
        let value = kinds_of acc.names.field.signature.descriptor in
        let units = with_units listed value [] in
        let same : row ≡ units = access_row true a acc (λ value. value) (λ value. []) row (of_action put_static row e of_row) in
        let pops : length row.pops ≡ length value = ap (λ (r : Row). length r.pops) same in
        let count : a.units ≡ length value = acc.units in
        let bases : at.top - a.units ≡ base = omega (arith, pops, count, lowest) in
        let told : op ≡ StoreStatic (field_no acc.names.number) base = is ∙ ap (λ (n : ℕ). StoreStatic (field_no n) (at.top - a.units)) (sym acc.number) ∙ ap (λ (z : ℕ). StoreStatic (field_no acc.names.number) z) bases in
        let by_type : is_reference_type acc.names.field.signature.descriptor ≡ true = sym acc.is_reference ∙ refers in
        lift_row put_static op row units base e refl same (record {
          names = acc.names;
          is = subst (λ (b : Bool). MatchBool b (op ≡ StoreStatic (field_no acc.names.number) base) (IsAssign (placed_at at units base) op)) (sym by_type) told;
        }));
  }

  no_stores_of : (a : Action) → row_of at.instruction.now.opcode ≡ Some listed → listed.action ≡ a → is_field_access a ≡ true → listed.stores ≡ []
  no_stores_of a is e access = no_stores at.instruction.now.opcode listed is (ap is_field_access e ∙ access)

  -- a static field of a primitive type
  pub gets_primitive : (a : Access) (moves : List Move) → row_of at.instruction.now.opcode ≡ Some listed → listed.action ≡ get_static → AccessesField at (wants_static listed.action) a → a.is_reference ≡ false
      → moves ≡ cleared_from a.units at.top → IsOperation at (Assign moves)
  gets_primitive a moves known e access refers is = record {
    for_row = λ row of_row base lowest.
        (let acc = wanted a get_static e access in
        let value = kinds_of acc.names.field.signature.descriptor in
        let units = with_units listed [] (map made_for value) in
        let same : row ≡ units = access_row true a acc (λ value. []) (map made_for) row (of_action get_static row e of_row) in
        let none : length row.pops ≡ 0 = ap (λ (r : Row). length r.pops) same in
        let bases : at.top ≡ base = omega (arith, none, lowest) in
        let by_type : is_reference_type acc.names.field.signature.descriptor ≡ false = sym acc.is_reference ∙ refers in
        let list : moves ≡ cleared_from (length value) base = is ∙ ap (λ (n : ℕ). cleared_from n at.top) acc.units ∙ ap (λ (z : ℕ). cleared_from (length value) z) bases in
        let each = pushes_primitives units value at.instruction.now.operand base (no_stores_of get_static known e refl) refl refl (all_primitive acc.names.field.signature.descriptor by_type) in
        let assign : IsAssign (placed_at at units base) (Assign moves) = record { moves = moves; is = refl; each = subst (λ (ms : List Move). AreMovesOf units at.instruction.now.operand base ms) (sym list) each } in
        lift_row get_static (Assign moves) row units base e refl same (record {
          names = acc.names;
          is = subst (λ (b : Bool). MatchBool b (Assign moves ≡ LoadStatic (field_no acc.names.number) base) (IsAssign (placed_at at units base) (Assign moves))) (sym by_type) assign;
        }));
  }

  pub puts_primitive : (a : Access) (moves : List Move) → row_of at.instruction.now.opcode ≡ Some listed → listed.action ≡ put_static → AccessesField at (wants_static listed.action) a → a.is_reference ≡ false
      → moves ≡ cleared_from a.units (at.top - a.units) → IsOperation at (Assign moves)
  puts_primitive a moves known e access refers is = record {
    for_row = λ row of_row base lowest.
        (let acc = wanted a put_static e access in
        let value = kinds_of acc.names.field.signature.descriptor in
        let units = with_units listed value [] in
        let same : row ≡ units = access_row true a acc (λ value. value) (λ value. []) row (of_action put_static row e of_row) in
        let pops : length row.pops ≡ length value = ap (λ (r : Row). length r.pops) same in
        let count : a.units ≡ length value = acc.units in
        let bases : at.top - a.units ≡ base = omega (arith, pops, count, lowest) in
        let by_type : is_reference_type acc.names.field.signature.descriptor ≡ false = sym acc.is_reference ∙ refers in
        let list : moves ≡ cleared_from (length value) base = is ∙ ap (λ (n : ℕ). cleared_from n (at.top - a.units)) count ∙ ap (λ (z : ℕ). cleared_from (length value) z) bases in
        let each = pops_units units (length value) at.instruction.now.operand base (no_stores_of put_static known e refl) refl refl in
        let assign : IsAssign (placed_at at units base) (Assign moves) = record { moves = moves; is = refl; each = subst (λ (ms : List Move). AreMovesOf units at.instruction.now.operand base ms) (sym list) each } in
        lift_row put_static (Assign moves) row units base e refl same (record {
          names = acc.names;
          is = subst (λ (b : Bool). MatchBool b (Assign moves ≡ StoreStatic (field_no acc.names.number) base) (IsAssign (placed_at at units base) (Assign moves))) (sym by_type) assign;
        }));
  }

  -- its moves are those of the row, in their order
  pub gets_in_order : (a : Access) (moves : List Move) → row_of at.instruction.now.opcode ≡ Some listed → listed.action ≡ get_static → AccessesField at (wants_static listed.action) a → a.is_reference ≡ false
      → moves ≡ cleared_from a.units at.top → IsOrdered at (Assign moves)
  gets_in_order a moves known e access refers is = record {
    for_row = λ row of_row base lowest.
        (let acc = wanted a get_static e access in
        let value = kinds_of acc.names.field.signature.descriptor in
        let units = with_units listed [] (map made_for value) in
        let same : row ≡ units = access_row true a acc (λ value. []) (map made_for) row (of_action get_static row e of_row) in
        let none : length row.pops ≡ 0 = ap (λ (r : Row). length r.pops) same in
        let bases : at.top ≡ base = omega (arith, none, lowest) in
        let by_type : is_reference_type acc.names.field.signature.descriptor ≡ false = sym acc.is_reference ∙ refers in
        is ∙ ap (λ (n : ℕ). cleared_from n at.top) acc.units ∙ ap (λ (z : ℕ). cleared_from (length value) z) bases
        ∙ sym (pushed_moves units value at.instruction.now.operand base (no_stores_of get_static known e refl) refl refl (all_primitive acc.names.field.signature.descriptor by_type))
        ∙ ap (λ (r : Row). moves_of r at.instruction.now.operand base) (sym same));
  }

  pub puts_in_order : (a : Access) (moves : List Move) → row_of at.instruction.now.opcode ≡ Some listed → listed.action ≡ put_static → AccessesField at (wants_static listed.action) a → a.is_reference ≡ false
      → moves ≡ cleared_from a.units (at.top - a.units) → IsOrdered at (Assign moves)
  puts_in_order a moves known e access refers is = record {
    for_row = λ row of_row base lowest.
        (let acc = wanted a put_static e access in
        let value = kinds_of acc.names.field.signature.descriptor in
        let units = with_units listed value [] in
        let same : row ≡ units = access_row true a acc (λ value. value) (λ value. []) row (of_action put_static row e of_row) in
        let pops : length row.pops ≡ length value = ap (λ (r : Row). length r.pops) same in
        let count : a.units ≡ length value = acc.units in
        let bases : at.top - a.units ≡ base = omega (arith, pops, count, lowest) in
        is ∙ ap (λ (n : ℕ). cleared_from n (at.top - a.units)) count ∙ ap (λ (z : ℕ). cleared_from (length value) z) bases
        ∙ sym (popped_moves units (length value) at.instruction.now.operand base (no_stores_of put_static known e refl) refl refl)
        ∙ ap (λ (r : Row). moves_of r at.instruction.now.operand base) (sym same));
  }
