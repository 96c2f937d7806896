-- Public contracts rest on this module.
-- The table that the kept variables are.
use Rattle.std.specs.Prelude.{ℕ, Bool, true, false, length, Option, Some, None, slice_get}
use Rattle.jvm_model.specs.declared.number.MethodNo.{MethodNo}
use Rattle.slot_names.specs.declared.arrivals.Arrival.{Arrival}
use Rattle.slot_names.specs.declared.arrivals.Arrival.TheVariants.{Nothing, OneNode, Several}
use Rattle.slot_names.specs.declared.entry.Entry.{Entry}
use Rattle.slot_names.specs.declared.names.Names.{Names}
use Rattle.slot_names.specs.declared.rows.Rows.{Rows}
use Rattle.slot_names.specs.declared.variable.Variable.{Variable}
use Rattle.slot_names.specs.declared.variable.Variable.TheVariants.{Parameter}
use Rattle.slot_names.specs.Entries.{variable_at}
use Rattle.slot_names.specs.Tables.{NameTable}

-- The variable of a slot by what is kept of a node; where nothing is, that of the parameter.
abbrev pub kept_variable : Rows → MethodNo → Option (Option Entry) → ℕ → Variable
kept_variable rows method None slot = Parameter method slot
kept_variable rows method (Some None) slot = Parameter method slot
kept_variable rows method (Some (Some entry)) slot = variable_at rows method entry slot

-- It is noted that the node is a merge point.
abbrev pub is_noted_merge : Option Arrival → Bool
is_noted_merge None = false
is_noted_merge (Some Nothing) = false
is_noted_merge (Some (OneNode from)) = false
is_noted_merge (Some Several) = true

-- The variable of each slot at each node, and which nodes are merge points, by what is kept of the nodes.
unfoldable pub name_table : Names → NameTable
name_table names = record {
  count = length names.entries.items;
  variable = λ place slot. kept_variable names.rows names.method (slice_get names.entries.items place) slot;
  merges = λ place. is_noted_merge (slice_get names.arrivals.items place);
}
