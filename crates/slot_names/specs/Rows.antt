-- Public contracts rest on this module.
-- Rows of variables by slot.
use Rattle.std.specs.Prelude.{◌≡◌, ◌≢◌, ℕ, zero, suc, ◌≤◌, List, length, Option, Some, None, slice_get}
use Rattle.slot_names.specs.Branches.{value_of}
use Rattle.slot_names.specs.declared.rows.Rows.{Rows}
use Rattle.slot_names.specs.declared.variable.Variable.{Variable}

-- The variable of a value, if it is that of one.
abbrev pub named_by : List Variable → ℕ → Option Variable
named_by variables zero = None
named_by variables (suc place) = slice_get variables place

-- The variable of a slot in a row.
abbrev pub named_at : Rows → ℕ → ℕ → Option Variable
named_at rows row slot = named_by rows.variables.items (value_of rows.branches.items row slot)

-- The row was made.
abbrev pub IsRow : Rows → ℕ → Type 0
IsRow rows row = row ≤ length rows.branches.items

-- Each row is still there, with the same variables.
pub record KeepsRows (old new : Rows) : Type 0 where
  pub row : (row : ℕ) → IsRow old row → IsRow new row
  pub named : (row slot : ℕ) → IsRow old row → named_at new row slot ≡ named_at old row slot

-- The new row has the variable at the slot, and at each other slot that of the row.
pub record IsSet (old new : Rows) (row slot : ℕ) (variable : Variable) (made : ℕ) : Type 0 where
  pub keeps : KeepsRows old new
  pub is_row : IsRow new made
  pub here : named_at new made slot ≡ Some variable
  pub others : (z : ℕ) → z ≢ slot → named_at new made z ≡ named_at old row z
