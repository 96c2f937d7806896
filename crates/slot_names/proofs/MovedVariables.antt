-- Moves that are made from the last on, and what operations do to slots as moves.
use Rattle.std.proofs.Common.{◌≡◌, ℕ, ◌+◌, ◌-◌, ◌<◌, ◌≤◌, Bool, true, false, cond, eqb, List, [], ◌∷◌, length, map, drop, find, get_or, Some, Option, refl, sym, ◌∙◌, ap, subst, arith, inl, inr, ◌⊎◌}
use Rattle.std.specs.List.{list_any}
use Rattle.std.specs.Option.{unwrap_or}
use Rattle.std.proofs.lemmas.Bool.{cases_Bool, cases_eq, eq-eqb, ne_eqb}
use Rattle.std.proofs.lemmas.List.{drop_more}
use Rattle.jvm_model.specs.declared.number.MethodNo.{MethodNo}
use Rattle.op_model.specs.declared.op.Move.{Move}
use Rattle.op_model.specs.declared.op.Op.{Op}
use Rattle.op_model.specs.declared.op.Op.TheVariants.{Assign, Load, Store, LoadElement, StoreElement, LoadStatic, StoreStatic, New, NewArray, Constant, Call, Return, Throw, Cast, Probe}
use Rattle.slot_names.specs.declared.entry.Entry.{Entry}
use Rattle.slot_names.specs.declared.rows.Rows.{Rows}
use Rattle.slot_names.specs.declared.variable.Variable.{Variable}
use Rattle.slot_names.specs.Entries.{root_variable, variable_at}
use Rattle.slot_names.specs.MovedRows.{effect_of_moves, variable_after, IsMoved}
use Rattle.slot_names.specs.OperationMoves.{erasing, moves_of}
use Rattle.slot_names.specs.Rows.{IsRow, IsSet, KeepsRows}
use Rattle.slot_names.specs.Variables.{Effect, effect_of_move, effect_on, written_slots, keeps as kept_effect, moves as moved_effect, writes as written_effect}
use Rattle.slot_names.proofs.SetRows.{KeepsRows-both}

-- ---- what an operation does, as moves

erased_by : (slot y : ℕ) (slots : List ℕ) → (eqb y slot ≡ true) ⊎ (eqb y slot ≡ false)
    → effect_of_moves (map erasing slots) slot ≡ cond (list_any (λ (x : ℕ). eqb x slot) slots) written_effect kept_effect
    → effect_of_moves (map erasing (y ∷ slots)) slot ≡ cond (list_any (λ (x : ℕ). eqb x slot) (y ∷ slots)) written_effect kept_effect
erased_by slot y slots (inl t) rest = rw t refl
erased_by slot y slots (inr f) rest = rw f rest

erased : (slot : ℕ) (slots : List ℕ) → effect_of_moves (map erasing slots) slot ≡ cond (list_any (λ (y : ℕ). eqb y slot) slots) written_effect kept_effect
erased slot [] = refl
erased slot (y ∷ slots) = erased_by slot y slots (cases_Bool (eqb y slot)) (erased slot slots)

pub effect_of_operation : (op : Op) (slot : ℕ) → effect_of_moves (moves_of op) slot ≡ effect_on slot op
effect_of_operation (Assign given) slot = refl
effect_of_operation (Load object field target) slot = erased slot (written_slots (Load object field target))
effect_of_operation (Store object field value) slot = erased slot (written_slots (Store object field value))
effect_of_operation (LoadElement array target) slot = erased slot (written_slots (LoadElement array target))
effect_of_operation (StoreElement array value) slot = erased slot (written_slots (StoreElement array value))
effect_of_operation (LoadStatic field target) slot = erased slot (written_slots (LoadStatic field target))
effect_of_operation (StoreStatic field value) slot = erased slot (written_slots (StoreStatic field value))
effect_of_operation (New site target) slot = erased slot (written_slots (New site target))
effect_of_operation (NewArray sites target) slot = erased slot (written_slots (NewArray sites target))
effect_of_operation (Constant site target) slot = erased slot (written_slots (Constant site target))
effect_of_operation (Call call) slot = erased slot (written_slots (Call call))
effect_of_operation (Return value) slot = erased slot (written_slots (Return value))
effect_of_operation (Throw value) slot = erased slot (written_slots (Throw value))
effect_of_operation (Cast class target) slot = erased slot (written_slots (Cast class target))
effect_of_operation (Probe target) slot = erased slot (written_slots (Probe target))

-- ---- moves, from the last on

-- rows that are kept have the variables that they had
pub same_variable : (old new : Rows) (method : MethodNo) (entry : Entry) (slot : ℕ) → KeepsRows old new → IsRow old entry.row
    → variable_at new method entry slot ≡ variable_at old method entry slot
same_variable old new method entry slot kept made =
    ap (λ (o : Option Variable). unwrap_or o (root_variable method entry.root slot)) (kept.named entry.row slot made)

same_after : (old new : Rows) (method : MethodNo) (entry : Entry) (offset slot : ℕ) (effect : Effect) → KeepsRows old new → IsRow old entry.row
    → variable_after (variable_at new method entry) method offset slot effect ≡ variable_after (variable_at old method entry) method offset slot effect
same_after old new method entry offset slot kept_effect kept made = same_variable old new method entry slot kept made
same_after old new method entry offset slot (moved_effect y) kept made = same_variable old new method entry y kept made
same_after old new method entry offset slot written_effect kept made = refl

-- the variable of a slot in the new row is that behind an effect on the old one
abbrev IsAfter : Rows → Rows → MethodNo → Entry → ℕ → ℕ → ℕ → Effect → Type 0
IsAfter old new method entry offset made slot effect =
    variable_at new method (record entry { row = made }) slot ≡ variable_after (variable_at old method entry) method offset slot effect

-- one more move
moved_next : (old mid new : Rows) (method : MethodNo) (entry : Entry) (rest : List Move) (offset row made : ℕ) (next : Move) (v : Variable)
    → IsRow old entry.row → IsMoved old mid method entry rest offset row
    → v ≡ variable_after (variable_at mid method entry) method offset next.target (effect_of_move (Some next))
    → IsSet mid new row next.target v made → IsMoved old new method entry (next ∷ rest) offset made
moved_next old mid new method entry rest offset row made next v there before is after = record {
  kept = KeepsRows-both old mid new before.kept after.keeps;
  made = after.is_row;
  each = λ slot. by slot (cases_eq next.target slot);
}
  where
    at_target : IsAfter old new method entry offset made next.target (effect_of_move (Some next))
    at_target =
        ap (λ (o : Option Variable). unwrap_or o (root_variable method entry.root next.target)) after.here ∙ is
        ∙ same_after old mid method entry offset next.target (effect_of_move (Some next)) before.kept there

    by : (slot : ℕ) → (next.target ≡ slot) ⊎ (next.target ≡ slot → ⊥) → IsAfter old new method entry offset made slot (effect_of_moves (next ∷ rest) slot)
    by slot (inl same) =
        let first : effect_of_moves (next ∷ rest) slot ≡ effect_of_move (Some next) =
        ap (λ (b : Bool). effect_of_move (cond b (Some next) (find (λ (m : Move). eqb m.target slot) rest))) (eq-eqb next.target slot same) in
        subst (IsAfter old new method entry offset made slot) (sym first)
        (subst (λ (z : ℕ). IsAfter old new method entry offset made z (effect_of_move (Some next))) same at_target)
    by slot (inr apart) =
        let others : effect_of_moves (next ∷ rest) slot ≡ effect_of_moves rest slot =
        ap (λ (b : Bool). effect_of_move (cond b (Some next) (find (λ (m : Move). eqb m.target slot) rest))) (ne_eqb next.target slot apart) in
        subst (IsAfter old new method entry offset made slot) (sym others)
        (ap (λ (o : Option Variable). unwrap_or o (root_variable method entry.root slot)) (after.others slot (λ e. apart (sym e))) ∙ before.each slot)

-- the same, as the code takes them
pub moved_more : (old mid new : Rows) (method : MethodNo) (entry : Entry) (given : List Move) (offset row made left : ℕ) (past : Move) (v : Variable)
    → IsRow old entry.row → IsMoved old mid method entry (drop left given) offset row → 0 < left → left ≤ length given
    → v ≡ variable_after (variable_at mid method entry) method offset (get_or given (left - 1) past).target (effect_of_move (Some (get_or given (left - 1) past)))
    → IsSet mid new row (get_or given (left - 1) past).target v made → IsMoved old new method entry (drop (left - 1) given) offset made
moved_more old mid new method entry given offset row made left past v there before some within is after =
    let next = get_or given (left - 1) past in
    let last : left - 1 + 1 ≡ left = omega arith in
    let split : drop (left - 1) given ≡ next ∷ drop left given =
    drop_more given (left - 1) past (omega arith) ∙ ap (λ (k : ℕ). next ∷ drop k given) last in
    subst (λ (ms : List Move). IsMoved old new method entry ms offset made) (sym split)
    (moved_next old mid new method entry (drop left given) offset row made next v there before is after)
