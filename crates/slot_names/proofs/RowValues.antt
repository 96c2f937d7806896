-- The values of rows: where they stand, that they stay when branches are added, and how large they are.
use Rattle.std.proofs.Common.{◌≡◌, ℕ, zero, suc, ◌/◌, ◌%◌, ◌<◌, ◌≤◌, Bool, true, false, cond, eqb, List, length, refl, sym, ◌∙◌, ap, arith}
use Rattle.std.specs.Option.{unwrap_or}
use Rattle.list_laws.proofs.Places.{stands_below}
use Rattle.slot_names.specs.declared.branch.Branch.{Branch}
use Rattle.slot_names.specs.Branches.{branch_at, empty_branch, next_row, value_in, value_of, AreBranches, Extends}

-- ---- where the value of a slot stands

-- more steps change nothing
steps_enough : (f g : ℕ) (branches : List Branch) (row slot : ℕ) → slot < f → slot < g → value_in f branches row slot ≡ value_in g branches row slot
steps_enough zero g branches row slot l m = absurd (omega arith)
steps_enough (suc f) zero branches row slot l m = absurd (omega arith)
steps_enough (suc f) (suc g) branches row zero l m = refl
steps_enough (suc f) (suc g) branches row (suc slot) l m = steps_enough f g branches (next_row (branch_at branches row) slot) (slot / 2) (omega arith) (omega arith)

pub value_of-zero : (branches : List Branch) (row : ℕ) → value_of branches row 0 ≡ (branch_at branches row).value
unfolding value_of
value_of-zero branches row = refl

pub value_of-suc : (branches : List Branch) (row slot : ℕ) → value_of branches row (suc slot) ≡ value_of branches (next_row (branch_at branches row) slot) (slot / 2)
unfolding value_of
value_of-suc branches row slot = steps_enough (suc slot) (suc (slot / 2)) branches (next_row (branch_at branches row) slot) (slot / 2) (omega arith) (omega arith)

-- the same, as the code has it
pub value_of-after : (branches : List Branch) (row slot before : ℕ) → slot ≡ suc before
    → value_of branches row slot ≡ value_of branches (next_row (branch_at branches row) before) (before / 2)
value_of-after branches row slot before e = ap (value_of branches row) e ∙ value_of-suc branches row before

-- ---- rows that were made

pub odd_made : (branches : List Branch) (bound row : ℕ) → AreBranches branches bound → row ≤ length branches → (branch_at branches row).odd ≤ length branches
odd_made branches bound zero sound made = omega arith
odd_made branches bound (suc place) sound made =
    let there = stands_below branches place (omega arith) in
    let is = ap (λ o. (unwrap_or o empty_branch).odd) there.1 in
    let below = sound.odd place there.0 there.1 in
    omega (arith, is, below)

pub even_made : (branches : List Branch) (bound row : ℕ) → AreBranches branches bound → row ≤ length branches → (branch_at branches row).even ≤ length branches
even_made branches bound zero sound made = omega arith
even_made branches bound (suc place) sound made =
    let there = stands_below branches place (omega arith) in
    let is = ap (λ o. (unwrap_or o empty_branch).even) there.1 in
    let below = sound.even place there.0 there.1 in
    omega (arith, is, below)

value_bound : (branches : List Branch) (bound row : ℕ) → AreBranches branches bound → row ≤ length branches → (branch_at branches row).value ≤ bound
value_bound branches bound zero sound made = omega arith
value_bound branches bound (suc place) sound made =
    let there = stands_below branches place (omega arith) in
    let is = ap (λ o. (unwrap_or o empty_branch).value) there.1 in
    let below = sound.value place there.0 there.1 in
    omega (arith, is, below)

pub next_made : (branches : List Branch) (bound row slot : ℕ) → AreBranches branches bound → row ≤ length branches
    → next_row (branch_at branches row) slot ≤ length branches
next_made branches bound row slot sound made = by (eqb (slot % 2) 0)
  where
    by : (b : Bool) → cond b (branch_at branches row).odd (branch_at branches row).even ≤ length branches
    by true = odd_made branches bound row sound made
    by false = even_made branches bound row sound made

-- ---- what was there stays

branch_stays : (old new : List Branch) (row : ℕ) → Extends old new → row ≤ length old → branch_at new row ≡ branch_at old row
branch_stays old new zero longer made = refl
branch_stays old new (suc place) longer made =
    let there = stands_below old place (omega arith) in
    ap (λ o. unwrap_or o empty_branch) (longer.stays place there.0 there.1) ∙ sym (ap (λ o. unwrap_or o empty_branch) there.1)

values_stay : (steps : ℕ) (old new : List Branch) (bound row slot : ℕ) → Extends old new → AreBranches old bound → row ≤ length old
    → value_in steps new row slot ≡ value_in steps old row slot
values_stay zero old new bound row slot longer sound made = refl
values_stay (suc steps) old new bound row zero longer sound made = ap (λ (b : Branch). b.value) (branch_stays old new row longer made)
values_stay (suc steps) old new bound row (suc slot) longer sound made =
    ap (λ (b : Branch). value_in steps new (next_row b slot) (slot / 2)) (branch_stays old new row longer made)
    ∙ values_stay steps old new bound (next_row (branch_at old row) slot) (slot / 2) longer sound (next_made old bound row slot sound made)

pub value_stays : (old new : List Branch) (bound row slot : ℕ) → Extends old new → AreBranches old bound → row ≤ length old
    → value_of new row slot ≡ value_of old row slot
unfolding value_of
value_stays old new bound row slot longer sound made = values_stay (suc slot) old new bound row slot longer sound made

-- ---- how large values are

values_bound : (steps : ℕ) (branches : List Branch) (bound row slot : ℕ) → AreBranches branches bound → row ≤ length branches → value_in steps branches row slot ≤ bound
values_bound zero branches bound row slot sound made = omega arith
values_bound (suc steps) branches bound row zero sound made = value_bound branches bound row sound made
values_bound (suc steps) branches bound row (suc slot) sound made =
    values_bound steps branches bound (next_row (branch_at branches row) slot) (slot / 2) sound (next_made branches bound row slot sound made)

pub value_of_bound : (branches : List Branch) (bound row slot : ℕ) → AreBranches branches bound → row ≤ length branches → value_of branches row slot ≤ bound
unfolding value_of
value_of_bound branches bound row slot sound made = values_bound (suc slot) branches bound row slot sound made
