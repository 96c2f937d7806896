-- This crate's own proofs alone rest on this module.
-- What a store does, path by path.
use Rattle.std.specs.Prelude.{◌≡◌, ℕ, ◌+◌, ◌≤◌, nat_lt, Bool, false, not, ◌&&◌, ◌||◌, List, [], ◌∷◌, ◌++◌, length, if◌then◌else◌}
use Rattle.std.specs.List.{flat_map, list_any, range_with_len}
use Rattle.jvm_model.specs.declared.number.FieldNo.{FieldNo}
use Rattle.op_model.specs.declared.lowered.LoweredMethod.{LoweredMethod}
use Rattle.op_model.specs.declared.node.Node.{Node}
use Rattle.access_paths.specs.declared.root.Root.{Root}
use Rattle.access_paths.specs.declared.root.Root.TheVariants.{Slot, Static, Returned, Thrown}
use Rattle.access_paths.specs.Paths.{Path, same_path}
use Rattle.stage_facts.specs.Facts.{Tuple}
use Rattle.stage_transfer.specs.Settings.{Setting, among}
use Rattle.stage_transfer.specs.Changes.{begins_at, has_fields, slots_go}
use Rattle.stage_transfer.specs.Operations.{after_store, passes_field}
use Rattle.stage_flow.specs.Shapes.{is_double, is_like}
use Rattle.stage_flow.specs.declared.store.FieldStore.{FieldStore}

-- The store is one at this setting.
pub record IsStoreIn (w : Setting) (s : FieldStore) : Type 0 where
  pub depth : w.depth ≡ s.depth
  pub few : w.depth ≤ 3

-- The slots that it writes.
abbrev pub operands : FieldStore → ℕ → Bool
operands s = among (s.object ∷ s.value ∷ [])

-- The slot has the object's variable, and is not written.
abbrev pub is_free : Setting → LoweredMethod → Node → FieldStore → ℕ → Bool
is_free w l n s y = not (operands s y) && is_like w l n s.object y

-- The slots of the method.
abbrev pub all_slots : LoweredMethod → List ℕ
all_slots l = range_with_len 0 (l.slots + l.stack)

-- There is such a slot.
abbrev pub has_free : Setting → LoweredMethod → Node → FieldStore → Bool
has_free w l n s = list_any (is_free w l n s) (all_slots l)

-- ---- what a path gives

-- The path of these fields by the slot, if that is such a one.
abbrev pub stored_at : Setting → LoweredMethod → Node → FieldStore → List FieldNo → ℕ → List Path
stored_at w l n s fields y = if is_free w l n s y then record { root = Slot y; fields = fields } ∷ [] else []

-- The path of these fields by each of them.
abbrev pub stored_fields : Setting → LoweredMethod → Node → FieldStore → List FieldNo → List Path
stored_fields w l n s fields = flat_map (stored_at w l n s fields) (all_slots l)

-- A path of the value that is short enough is one of the field afterwards.
abbrev pub stored_path : Setting → LoweredMethod → Node → FieldStore → Path → List Path
stored_path w l n s x =
    if begins_at (Slot s.value) x
    then (if nat_lt (length x.fields) w.depth then stored_fields w l n s (s.field ∷ x.fields) else [])
    else []

-- A path whose root is not written stays.
abbrev pub own_path : FieldStore → Path → List Path
own_path s x = if slots_go (operands s) x.root then [] else x ∷ []

-- What a path gives: nothing, if it follows the field.
abbrev pub given_path : Setting → LoweredMethod → Node → FieldStore → Path → List Path
given_path w l n s x = if passes_field s.field x then [] else own_path s x ++ stored_path w l n s x

-- ---- what is lost

-- The root is a slot of the object's variable.
abbrev pub is_owner : Setting → LoweredMethod → Node → (object : ℕ) → Root → Bool
is_owner w l n object (Slot z) = is_like w l n object z
is_owner w l n object (Static f) = false
is_owner w l n object Returned = false
is_owner w l n object Thrown = false

-- The field, of a root.
abbrev pub field_by : Root → FieldNo → Path
field_by r field = record { root = r; fields = field ∷ [] }

-- The path is the field itself.
abbrev pub is_own_field : Setting → LoweredMethod → Node → FieldStore → Path → Bool
is_own_field w l n s x = is_owner w l n s.object x.root && same_path x (field_by x.root s.field)

-- The path's root is written, and no other slot has it.
abbrev pub loses_root : Setting → LoweredMethod → Node → FieldStore → List Path → Path → Bool
loses_root w l n s set x = has_fields x.fields && (slots_go (operands s) x.root && not (list_any (is_double w l n (operands s) x) set))

-- The path is one of the value, and behind the field it is too long, or no slot is left that has it.
abbrev pub loses_value : Setting → LoweredMethod → Node → FieldStore → Path → Bool
loses_value w l n s x = begins_at (Slot s.value) x && (not (nat_lt (length x.fields) w.depth) || not (has_free w l n s))

-- The path is lost: it follows the field and is not the field itself; or it goes with its root, or behind the field.
abbrev pub loses_by : Setting → LoweredMethod → Node → FieldStore → List Path → Path → Bool
loses_by w l n s set x =
    if passes_field s.field x then not (is_own_field w l n s x) else loses_root w l n s set x || loses_value w l n s x

-- Cells may hold the object afterwards in which no path ends.
abbrev pub may_after_store : Setting → LoweredMethod → Node → FieldStore → Tuple → Bool
may_after_store w l n s t = t.may || list_any (loses_by w l n s t.must) t.must

-- What the store does to a tuple.
abbrev pub after_field_store : Setting → LoweredMethod → Node → FieldStore → Tuple → Tuple
after_field_store w l n s t = after_store w l n s.object s.field s.value t
