-- Public contracts rest on this module.
-- What is done to sets of paths: paths are added, and the paths of a root or of a field leave. A set that gets too large keeps its least paths.
use Rattle.std.specs.Prelude.{ℕ, nat_eq, nat_le, nat_lt, Bool, not, ◌||◌, List, [], ◌∷◌, ◌++◌, length, map, min, take, filter, flat_map, if◌then◌else◌}
use Rattle.std.specs.List.{list_any}
use Rattle.jvm_model.specs.declared.number.FieldNo.{FieldNo}
use Rattle.access_paths.specs.declared.root.Root.{Root}
use Rattle.access_paths.specs.declared.cut.Cut.{Cut}
use Rattle.access_paths.specs.Paths.{Path, most_paths, path_set, same_root}
use Rattle.access_paths.specs.Followed.{most_fields}

-- ---- single paths

-- Fields are known by their numbers.
abbrev pub same_field : FieldNo → FieldNo → Bool
same_field f g = nat_eq f.0 g.0

-- The path is one of the root.
abbrev pub begins_at : Root → Path → Bool
begins_at r x = same_root r x.root

-- The path follows the field somewhere.
abbrev pub passes_field : FieldNo → Path → Bool
passes_field f x = list_any (same_field f) x.fields

-- The path of another root with the same fields.
abbrev pub with_root : Root → Path → Path
with_root r x = record { root = r; fields = x.fields }

-- The path that follows a field more.
abbrev pub with_field : FieldNo → Path → Path
with_field f x = record { root = x.root; fields = x.fields ++ f ∷ [] }

-- The field of the object, and from there the fields of the path.
abbrev pub behind : Root → FieldNo → Path → Path
behind object f x = record { root = object; fields = f ∷ x.fields }

-- ---- sets that are cut

-- The least paths of a set, as many as are kept; and whether others are left out.
abbrev pub cut_of : List Path → Cut
cut_of set = record { set = take most_paths set; dropped = nat_lt most_paths (length set) }

-- The paths of the source, as paths of the target.
abbrev pub copies : (source target : Root) → List Path → List Path
copies source target set = map (with_root target) (filter (begins_at source) set)

-- The set, and what it gains.
abbrev pub gaining : (List Path → List Path) → List Path → List Path
gaining gain set = path_set (set ++ gain set)

-- What is left behind the first field, if it is this one, as a path of the target.
abbrev pub loaded_fields : FieldNo → (target : Root) → List FieldNo → List Path
loaded_fields f target [] = []
loaded_fields f target (g ∷ rest) = if same_field f g then record { root = target; fields = rest } ∷ [] else []

-- Of each path of the object that begins with the field, what is left behind it, as a path of the target.
abbrev pub loads : (object : Root) → FieldNo → (target : Root) → List Path → List Path
loads object f target set = flat_map (λ (x : Path). loaded_fields f target x.fields) (filter (begins_at object) set)

-- The paths of the source, behind the field of the object.
abbrev pub stores : (source object : Root) → FieldNo → List Path → List Path
stores source object f set = map (behind object f) (filter (begins_at source) set)

-- The path follows no more fields than the depth, and no more than a path may.
abbrev pub is_short : (depth : ℕ) → Path → Bool
is_short depth x = nat_le (length x.fields) (min depth most_fields)

-- Those that are short enough.
abbrev pub short_stores : (source object : Root) → FieldNo → (depth : ℕ) → List Path → List Path
short_stores source object f depth set = filter (is_short depth) (stores source object f set)

-- Some are too long.
abbrev pub has_long_store : (source object : Root) → FieldNo → (depth : ℕ) → List Path → Bool
has_long_store source object f depth set = list_any (λ (x : Path). not (is_short depth x)) (stores source object f set)

-- The set, and those that are short enough, cut. What is too long is left out too.
abbrev pub extended : (source object : Root) → FieldNo → (depth : ℕ) → List Path → Cut
extended source object f depth set = record {
  set = take most_paths (gaining (short_stores source object f depth) set);
  dropped = has_long_store source object f depth set || nat_lt most_paths (length (gaining (short_stores source object f depth) set));
}

-- ---- paths that leave

-- The paths of other roots.
abbrev pub without_root : Root → List Path → List Path
without_root r set = filter (λ (x : Path). not (begins_at r x)) set

-- The paths that do not follow the field.
abbrev pub without_field : FieldNo → List Path → List Path
without_field f set = filter (λ (x : Path). not (passes_field f x)) set
