-- Public contracts rest on this module.
-- Access paths as rows of a pool of facts.
use Rattle.std.specs.Prelude.{◌≡◌, ℕ, ◌+◌, ◌≤◌, List, ◌∷◌, Some, length, map, slice_get, take}
use Rattle.access_paths.specs.declared.root.Root.{Root}
use Rattle.access_paths.specs.declared.root.Root.TheVariants.{Slot, Static, Returned, Thrown}
use Rattle.access_paths.specs.Followed.{most_fields}
use Rattle.access_paths.specs.Paths.{Path, number_of}
use Rattle.fact_pool.specs.Rows.{HasSpare, PoolRows}

-- The kind of a root.
abbrev pub kind_of : Root → ℕ
kind_of (Slot z) = 0
kind_of (Static f) = 1
kind_of Returned = 2
kind_of Thrown = 3

-- The number of a root among those of its kind.
abbrev pub root_number : Root → ℕ
root_number (Slot z) = z
root_number (Static f) = f.0
root_number Returned = 0
root_number Thrown = 0

-- The words of a path: the kind and the number of its root, and the numbers of its fields.
abbrev pub path_words : Path → List ℕ
path_words x = kind_of x.root ∷ root_number x.root ∷ map number_of x.fields

-- The row has the words of the path, which follows three fields at most.
pub record IsPathRow (rows : List (List ℕ)) (row : ℕ) (x : Path) : Type 0 where
  pub words : slice_get rows row ≡ Some (path_words x)
  pub few : length x.fields ≤ most_fields

-- The rows that there were stay first.
pub record KeepsRows (old new : List (List ℕ)) : Type 0 where
  pub front : take (length old) new ≡ old

-- So many rows at most were added; what was spare is spare yet, but for so many rows and words.
pub record SpendsAtMost (rows words : ℕ) (old new : PoolRows) : Type 0 where
  pub few : length new.rows ≤ length old.rows + rows
  pub left : (more_rows more_words : ℕ) → HasSpare old (more_rows + rows) (more_words + words) → HasSpare new more_rows more_words
