-- Public contracts rest on this module.
-- What is kept of a node, and the variables that it tells.
use Rattle.std.specs.Prelude.{ℕ, unwrap_or}
use Rattle.jvm_model.specs.declared.number.MethodNo.{MethodNo}
use Rattle.slot_names.specs.declared.entry.Entry.{Entry}
use Rattle.slot_names.specs.declared.entry.Root.{Root}
use Rattle.slot_names.specs.declared.entry.Root.TheVariants.{Beginning, Meeting}
use Rattle.slot_names.specs.declared.rows.Rows.{Rows}
use Rattle.slot_names.specs.declared.variable.Variable.{Variable}
use Rattle.slot_names.specs.declared.variable.Variable.TheVariants.{Parameter, At}
use Rattle.slot_names.specs.Rows.{named_at}

-- The variable that a slot has at a root.
abbrev pub root_variable : MethodNo → Root → ℕ → Variable
root_variable method Beginning slot = Parameter method slot
root_variable method (Meeting offset) slot = At method offset slot

-- The variable of a slot at the node of an entry: that of its row, or else that of its root.
abbrev pub variable_at : Rows → MethodNo → Entry → ℕ → Variable
variable_at rows method entry slot = unwrap_or (named_at rows entry.row slot) (root_variable method entry.root slot)
