-- Public contracts rest on this module.
-- Rows of numbers by slot, as trees whose branches stand in one list. A branch has the value of the slot 0, and two rows for the slots after
-- it: the odd ones, in which the slot 2k + 1 is the slot k, and the even ones, in which the slot 2k + 2 is.
use Rattle.std.specs.Prelude.{◌≡◌, ◌≢◌, ℕ, zero, suc, ◌≤◌, ◌/◌, ◌%◌, nat_eq, List, length, Some, slice_get, unwrap_or, if◌then◌else◌}
use Rattle.slot_names.specs.declared.branch.Branch.{Branch}

abbrev pub empty_branch : Branch
empty_branch = record { value = 0; odd = 0; even = 0 }

-- The branch of a row. The row 0 is empty, and each other one begins at the place before its number.
abbrev pub branch_at : List Branch → ℕ → Branch
branch_at branches zero = empty_branch
branch_at branches (suc place) = unwrap_or (slice_get branches place) empty_branch

-- The row that has the slot after this one.
abbrev pub next_row : Branch → ℕ → ℕ
next_row b slot = if nat_eq (slot % 2) 0 then b.odd else b.even

-- The branch with another row for the slot after this one.
abbrev pub with_next : Branch → ℕ → ℕ → Branch
with_next b slot row = if nat_eq (slot % 2) 0 then record b { odd = row } else record b { even = row }

-- The value of a slot in a row, in so many steps.
abbrev pub value_in : ℕ → List Branch → ℕ → ℕ → ℕ
value_in zero branches row slot = 0
value_in (suc steps) branches row zero = (branch_at branches row).value
value_in (suc steps) branches row (suc slot) = value_in steps branches (next_row (branch_at branches row) slot) (slot / 2)

-- The value of a slot in a row. The slot is a bound on the steps.
unfoldable pub value_of : List Branch → ℕ → ℕ → ℕ
value_of branches row slot = value_in (suc slot) branches row slot

-- What stands in the old list stands at its place in the new one.
pub record Extends {X : Type 0} (old new : List X) : Type 0 where
  pub stays : (place : ℕ) (x : X) → slice_get old place ≡ Some x → slice_get new place ≡ Some x

-- Each branch's rows were made before it, and its value is at most the bound.
pub record AreBranches (branches : List Branch) (bound : ℕ) : Type 0 where
  pub odd : (place : ℕ) (b : Branch) → slice_get branches place ≡ Some b → b.odd ≤ place
  pub even : (place : ℕ) (b : Branch) → slice_get branches place ≡ Some b → b.even ≤ place
  pub value : (place : ℕ) (b : Branch) → slice_get branches place ≡ Some b → b.value ≤ bound

-- The new row has the value at the slot, and at each other slot what the row had; and what was there stays.
pub record IsPlaced (old new : List Branch) (row slot value placed : ℕ) : Type 0 where
  pub stays : Extends old new
  pub made : placed ≤ length new
  pub here : value_of new placed slot ≡ value
  pub others : (z : ℕ) → z ≢ slot → value_of new placed z ≡ value_of old row z

-- A branch was added at the end, and is the row.
pub record IsAdded (old new : List Branch) (b : Branch) (row : ℕ) : Type 0 where
  pub is : slice_get new (length old) ≡ Some b
  pub stays : Extends old new
  pub last : row ≡ suc (length old)
  pub count : length new ≡ suc (length old)
