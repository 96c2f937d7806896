-- Public contracts rest on this module.
-- What is known of a method whose nodes are read.
use Rattle.std.specs.Prelude.{ℕ, ◌<◌, length}
use Rattle.jvm_model.specs.Programs.{Program}
use Rattle.op_model.specs.declared.lowered.LoweredMethod.{LoweredMethod}
use Rattle.points_to_rules.specs.WholeMethods.{IsWholeMethod}
use Rattle.points_to_methods.specs.declared.named.NamedMethod.{NamedMethod}
use Rattle.slot_names.specs.KeptNames.{name_table}
use Rattle.slot_names.specs.Tables.{AreNames, NameTable}

-- It is a method of the program, and the names are those of its slots.
pub record IsNamedMethod (p : Program) (l : LoweredMethod) (names : NameTable) : Type 0 where
  pub in_program : IsWholeMethod p l.method.0 l
  pub are_names : AreNames l names

abbrev pub names_at : NamedMethod → NameTable
names_at at = name_table at.names.now

abbrev pub IsNamed : NamedMethod → Type 0
IsNamed at = IsNamedMethod at.program.now at.method.now (names_at at)

-- A node stands at the place.
abbrev pub HasNode : NamedMethod → ℕ → Type 0
HasNode at node = node < length at.method.now.nodes
