-- Public contracts rest on this module.
-- What happens to the paths of a tuple where roots get other values: paths are added, roots go, and a path that is lost makes other cells possible.
use Rattle.std.specs.Prelude.{ℕ, Bool, true, false, not, ◌&&◌, ◌||◌, List, [], ◌∷◌, ◌++◌, map, filter, flat_map}
use Rattle.std.specs.List.{list_any}
use Rattle.jvm_model.specs.declared.number.FieldNo.{FieldNo}
use Rattle.op_model.specs.declared.lowered.LoweredMethod.{LoweredMethod}
use Rattle.op_model.specs.declared.node.Node.{Node}
use Rattle.access_paths.specs.declared.root.Root.{Root}
use Rattle.access_paths.specs.declared.root.Root.TheVariants.{Slot, Static, Returned, Thrown}
use Rattle.access_paths.specs.Paths.{Path, has_path, path_set, same_root}
use Rattle.stage_facts.specs.Facts.{Tuple}
use Rattle.stage_transfer.specs.Settings.{Setting, alike, among}

-- ---- copies

-- A root gets the value that another one had.
pub record Copy : Type 0 where
  pub from : Root
  pub to : Root

abbrev pub with_root : Root → Path → Path
with_root r x = record { root = r; fields = x.fields }

abbrev pub begins_at : Root → Path → Bool
begins_at r x = same_root r x.root

-- For each path of the one root, that of the other root with the same fields.
abbrev pub copied : List Copy → List Path → List Path
copied copies set = flat_map (λ (c : Copy). map (with_root c.to) (filter (begins_at c.from) set)) copies

-- ---- changes

-- What is added to a set, for the paths that it had; which roots go, with the paths that they had; and, for a root that goes, the slots that hold
-- afterwards what it held.
pub record Change : Type 0 where
  pub adds : List Path → List Path
  pub goes : Root → Bool
  pub doubles : Root → List Root

abbrev pub changed_set : Change → List Path → List Path
changed_set c set = path_set (filter (λ (x : Path). not (c.goes x.root)) set ++ c.adds set)

abbrev pub has_fields : List FieldNo → Bool
has_fields [] = false
has_fields (f ∷ rest) = true

-- A path is doubled where the set has afterwards one with the same fields, of a slot that holds what the path's root held.
abbrev pub is_doubled : (Root → List Root) → (after : List Path) → Path → Bool
is_doubled doubles after x = list_any (λ (r : Root). has_path after (with_root r x)) (doubles x.root)

-- A path of at least one field is lost where its root goes and it is not doubled: its last cell may hold the object still, and no path ends there.
abbrev pub is_lost : Change → (after : List Path) → Path → Bool
is_lost c after x = has_fields x.fields && (c.goes x.root && not (is_doubled c.doubles after x))

abbrev pub with_may : Bool → Tuple → Tuple
with_may may t = record { unique = t.unique; state = t.state; must = t.must; may = t.may || may; must_not = t.must_not }

abbrev pub changed : Change → Tuple → Tuple
changed c t = record {
  unique = t.unique;
  state = t.state;
  must = changed_set c t.must;
  may = t.may || list_any (is_lost c (changed_set c t.must)) t.must;
  must_not = changed_set c t.must_not;
}

-- ---- slots that are written

abbrev pub slots_go : (ℕ → Bool) → Root → Bool
slots_go written (Slot z) = written z
slots_go written (Static f) = false
slots_go written Returned = false
slots_go written Thrown = false

-- The slots that had the root's variable before the node, and that the node does not write.
abbrev pub unwritten : Setting → LoweredMethod → Node → (ℕ → Bool) → Root → List Root
unwritten w l n written (Slot z) = map Slot (filter (λ (y : ℕ). not (written y)) (alike w l n z))
unwritten w l n written (Static f) = []
unwritten w l n written Returned = []
unwritten w l n written Thrown = []

-- A root that holds afterwards what these slots held, if the root is one of their variable.
abbrev pub moved_to : Setting → LoweredMethod → Node → (from : ℕ) → (to : Root) → Root → List Root
moved_to w l n from to (Slot z) = filter (λ (r : Root). among (alike w l n z) from) (to ∷ [])
moved_to w l n from to (Static f) = []
moved_to w l n from to Returned = []
moved_to w l n from to Thrown = []

-- Slots are written, and nothing is known of what they get.
abbrev pub writing : Setting → LoweredMethod → Node → List ℕ → Change
writing w l n written = record { adds = λ set. []; goes = slots_go (among written); doubles = unwritten w l n (among written) }

-- The same, and a slot gets the value that a root has.
abbrev pub copying : Setting → LoweredMethod → Node → List ℕ → Copy → Change
copying w l n written c = record { adds = copied (c ∷ []); goes = slots_go (among written); doubles = unwritten w l n (among written) }
