-- This crate's own proofs alone rest on this module.
-- The variables behind a node.
use Rattle.std.specs.Prelude.{◌≡◌, ℕ, nat_eq, find, List}
use Rattle.jvm_model.specs.declared.number.MethodNo.{MethodNo}
use Rattle.op_model.specs.declared.op.Move.{Move}
use Rattle.slot_names.specs.declared.entry.Entry.{Entry}
use Rattle.slot_names.specs.declared.rows.Rows.{Rows}
use Rattle.slot_names.specs.declared.variable.Variable.{Variable}
use Rattle.slot_names.specs.declared.variable.Variable.TheVariants.{At}
use Rattle.slot_names.specs.Entries.{variable_at}
use Rattle.slot_names.specs.Rows.{IsRow, KeepsRows}
use Rattle.slot_names.specs.Variables.{Effect, keeps, moves, writes, effect_of_move}

-- The variable of a slot at the node of an offset, by those that slots had before and by what the node before does to the slot.
abbrev pub variable_after : (ℕ → Variable) → MethodNo → ℕ → ℕ → Effect → Variable
variable_after before method offset slot keeps = before slot
variable_after before method offset slot (moves source) = before source
variable_after before method offset slot writes = At method offset slot

-- What moves do to a slot: the first one that moves into it decides.
abbrev pub effect_of_moves : List Move → ℕ → Effect
effect_of_moves given slot = effect_of_move (find (λ (m : Move). nat_eq m.target slot) given)

-- With the new row in the place of the entry's, slots have the variables that they have behind the moves.
pub record IsMoved (old new : Rows) (method : MethodNo) (entry : Entry) (given : List Move) (offset : ℕ) (row : ℕ) : Type 0 where
  pub kept : KeepsRows old new
  pub made : IsRow new row
  pub each : (slot : ℕ)
      → variable_at new method (record entry { row = row }) slot ≡ variable_after (variable_at old method entry) method offset slot (effect_of_moves given slot)
