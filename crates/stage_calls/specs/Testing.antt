-- This crate's own proofs alone rest on this module.
-- What the tests of paths compute.
use Rattle.std.specs.Prelude.{◌≡◌, ℕ, Bool, false, not, ◌&&◌, ◌||◌, List}
use Rattle.std.specs.List.{list_any}
use Rattle.jvm_model.specs.declared.number.MethodNo.{MethodNo}
use Rattle.op_model.specs.declared.lowered.LoweredMethod.{LoweredMethod}
use Rattle.op_model.specs.declared.node.Node.{Node}
use Rattle.access_paths.specs.declared.root.Root.{Root}
use Rattle.access_paths.specs.declared.root.Root.TheVariants.{Slot, Static, Returned, Thrown}
use Rattle.access_paths.specs.Paths.{bare, Path, same_path}
use Rattle.stage_facts.specs.Facts.{Tuple}
use Rattle.stage_transfer.specs.Settings.{Setting, alike, among, same_variable}
use Rattle.stage_transfer.specs.Changes.{has_fields, is_doubled, unwritten, with_root}
use Rattle.stage_transfer.specs.Calls.{Entering, is_dropped, is_handed_on, is_left_out, is_passed_on, joins, left_set, written_on}

-- Two tests tell the same of each path.
abbrev pub AreAlike : (p q : Path → Bool) → Type 0
AreAlike p q = (x : Path) → p x ≡ q x

-- The path has fields, and what is entered knows nothing of its root.
abbrev pub is_unpassed : Entering → Path → Bool
is_unpassed by x = has_fields x.fields && not (is_passed_on by x.root)

-- The exit hands the path on.
abbrev pub is_path_handed_on : Entering → Path → Bool
is_path_handed_on by x = is_handed_on by x.root

-- The test is whether a path joins, by the answers at a node of which these slots are known.
pub record IsJoinTest (knows : Setting → LoweredMethod → Node → Type 0) (by : Entering) (target : MethodNo) (p : Path → Bool) : Type 0 where
  pub setting : Setting
  pub method : LoweredMethod
  pub node : Node
  pub known : knows setting method node
  pub tells : (x : Path) → p x ≡ joins setting by target x

-- A path of the caller is left out, where the exit has these paths.
abbrev pub is_left_out_of : Setting → LoweredMethod → Node → Entering → (target : MethodNo) → (caller exit : List Path) → Path → Bool
is_left_out_of w l n by target caller exit x = is_left_out w l n by target (left_set w by target caller exit) x

-- The test is whether a path of the caller is left out, whatever the exit has.
pub record IsLeftOutTest (knows : Setting → LoweredMethod → Node → Type 0) (by : Entering) (target : MethodNo) (caller : List Path) (p : Path → Bool) : Type 0 where
  pub setting : Setting
  pub method : LoweredMethod
  pub node : Node
  pub exit : List Path
  pub known : knows setting method node
  pub tells : (x : Path) → p x ≡ is_left_out_of setting method node by target caller exit x

-- The path with this slot as its root is doubled.
abbrev pub is_doubled_slot : Setting → LoweredMethod → Node → Entering → (target : MethodNo) → (caller exit : List Path) → Path → (slot : ℕ) → Bool
is_doubled_slot w l n by target caller exit x slot =
    is_doubled (unwritten w l n (among (written_on by))) (left_set w by target caller exit) (with_root (Slot slot) x)

-- The root is a slot that has this one's variable, and that the node does not write.
abbrev pub holds_afterwards : Setting → LoweredMethod → Node → Entering → (slot : ℕ) → Root → Bool
holds_afterwards w l n by slot (Slot z) = among (alike w l n slot) z && not (among (written_on by) z)
holds_afterwards w l n by slot (Static f) = false
holds_afterwards w l n by slot Returned = false
holds_afterwards w l n by slot Thrown = false

-- A path of the caller doubles another one.
abbrev pub doubles : Setting → LoweredMethod → Node → Entering → (target : MethodNo) → Path → (slot : ℕ) → (other : Path) → Bool
doubles w l n by target x slot other =
    holds_afterwards w l n by slot other.root && (same_path (with_root other.root x) other && joins w by target other)

-- Other cells may hold the object, by what the caller and the exit know.
abbrev pub may_both : Setting → LoweredMethod → Node → Entering → (target : MethodNo) → (caller exit : Tuple) → Bool
may_both w l n by target caller exit =
    exit.may || (caller.may
    || (list_any (is_dropped by) exit.must || list_any (is_left_out w l n by target (left_set w by target caller.must exit.must)) caller.must))

-- ---- slots

-- The path of a slot alone.
abbrev pub bare_slot : ℕ → Path
bare_slot z = bare (Slot z)

-- The slots have one variable at the node.
abbrev pub is_like : Setting → LoweredMethod → Node → (z y : ℕ) → Bool
is_like w l n z y = same_variable (w.answers.variable_at l n y) (w.answers.variable_at l n z)
