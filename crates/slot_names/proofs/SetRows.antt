-- A variable is set in a row: each row that was there keeps its variables.
use Rattle.std.proofs.Common.{◌≡◌, ℕ, zero, suc, ◌/◌, ◌%◌, ◌≤◌, Bool, true, false, cond, eqb, List, [], ◌∷◌, ◌++◌, length, None, refl, sym, ◌∙◌, ap, arith}
use Rattle.std.specs.List.{slice_get}
use Rattle.list_laws.proofs.Places.{pushed_at, stands_below}
use Rattle.slot_names.specs.declared.branch.Branch.{Branch}
use Rattle.slot_names.specs.declared.rows.Rows.{Rows}
use Rattle.slot_names.specs.declared.variable.Variable.{Variable}
use Rattle.slot_names.specs.Branches.{AreBranches, IsPlaced, value_in, value_of}
use Rattle.slot_names.specs.Rows.{IsRow, IsSet, KeepsRows, named_at, named_by}
use Rattle.slot_names.proofs.ListPlaces.{Extends-push, length-extends}
use Rattle.slot_names.proofs.RowValues.{value_of_bound, value_stays}

-- ---- rows that are kept

pub KeepsRows-both : (old mid new : Rows) → KeepsRows old mid → KeepsRows mid new → KeepsRows old new
KeepsRows-both old mid new g h = record {
  row = λ row made. h.row row (g.row row made);
  named = λ row slot made. h.named row slot (g.row row made) ∙ g.named row slot made;
}

-- ---- one more variable

named_longer : (variables : List Variable) (v : Variable) (k : ℕ) → k ≤ length variables → named_by (variables ++ v ∷ []) k ≡ named_by variables k
named_longer variables v zero l = refl
named_longer variables v (suc place) l =
    let there = stands_below variables place (omega arith) in
    let longer = Extends-push variables v in
    longer.stays place there.0 there.1 ∙ sym there.1

length-pushed : (variables : List Variable) (v : Variable) → length (variables ++ v ∷ []) ≡ suc (length variables)
length-pushed [] v = refl
length-pushed (x ∷ variables) v = ap suc (length-pushed variables v)

-- what a row of old branches names, in the new ones
still_named : (old new : Rows) (row made slot : ℕ) (v : Variable) → AreBranches old.branches.items (length old.variables.items) → IsRow old row
    → new.variables.items ≡ old.variables.items ++ v ∷ [] → value_of new.branches.items made slot ≡ value_of old.branches.items row slot
    → named_at new made slot ≡ named_at old row slot
still_named old new row made slot v sound there variables same =
    let bound = value_of_bound old.branches.items (length old.variables.items) row slot sound there in
    ap (named_by new.variables.items) same
    ∙ ap (λ (vs : List Variable). named_by vs (value_of old.branches.items row slot)) variables
    ∙ named_longer old.variables.items v (value_of old.branches.items row slot) bound

pub is_set : (old new : Rows) (row slot : ℕ) (v : Variable) (value made : ℕ) → AreBranches old.branches.items (length old.variables.items) → IsRow old row
    → new.variables.items ≡ old.variables.items ++ v ∷ [] → value ≡ length new.variables.items
    → IsPlaced old.branches.items new.branches.items row slot value made → IsSet old new row slot v made
is_set old new row slot v value made sound there variables last placed = record {
  keeps = record {
    row = λ at was. let longer = length-extends old.branches.items new.branches.items placed.stays in omega (arith, was, longer);
    named = λ at z was. still_named old new at at z v sound was variables
        (value_stays old.branches.items new.branches.items (length old.variables.items) at z placed.stays sound was);
  };
  is_row = placed.made;
  here =
      let count : value_of new.branches.items made slot ≡ suc (length old.variables.items) =
      placed.here ∙ last ∙ ap (length {A = Variable}) variables ∙ length-pushed old.variables.items v in
      ap (named_by new.variables.items) count ∙ ap (λ (vs : List Variable). slice_get vs (length old.variables.items)) variables ∙ pushed_at old.variables.items v;
  others = λ z apart. still_named old new row made z v sound there variables (placed.others z apart);
}

-- ---- the empty row

nothing_in : (steps : ℕ) (branches : List Branch) (slot : ℕ) → value_in steps branches 0 slot ≡ 0
nothing_in zero branches slot = refl
nothing_in (suc steps) branches zero = refl
nothing_in (suc steps) branches (suc slot) = ap (λ (row : ℕ). value_in steps branches row (slot / 2)) (empty_next (eqb (slot % 2) 0)) ∙ nothing_in steps branches (slot / 2)
  where
    empty_next : (b : Bool) → ◌≡◌ {A = ℕ} (cond b 0 0) 0
    empty_next true = refl
    empty_next false = refl

pub named_nowhere : (rows : Rows) (slot : ℕ) → named_at rows 0 slot ≡ None
unfolding value_of
named_nowhere rows slot = ap (named_by rows.variables.items) (nothing_in (suc slot) rows.branches.items slot)
