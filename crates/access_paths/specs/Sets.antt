-- Public contracts rest on this module.
-- Sets of paths as they are kept.
use Rattle.std.specs.Prelude.{◌≤◌, List, [], ◌∷◌, length, IsTrue}
use Rattle.access_paths.specs.Paths.{Path, comes_before, most_paths, path_key}

-- The path comes before the first of the others.
abbrev pub IsBeforeFirst : Path → List Path → Type 0
IsBeforeFirst x [] = Unit {0}
IsBeforeFirst x (y ∷ ys) = IsTrue (comes_before (path_key x) (path_key y))

-- The paths stand in order, each once.
abbrev pub AreInOrder : List Path → Type 0
AreInOrder [] = Unit {0}
AreInOrder (x ∷ xs) = IsBeforeFirst x xs × AreInOrder xs

-- In order, and no more than a set may have.
pub record IsPathSet (set : List Path) : Type 0 where
  pub ordered : AreInOrder set
  pub few : length set ≤ most_paths
