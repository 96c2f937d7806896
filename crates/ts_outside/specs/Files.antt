-- Public contracts rest on this module.
-- What a tree holds: a finite map from names to bytes.
use Rattle.std.specs.Prelude.{codes, ℕ, Bool, true, ◌&&◌, not, nat_eq, List, [], ◌∷◌, map, filter, find, Option, option_map, IsPermutation, IsSorted}
use Rattle.std.specs.List.{ends_with, list_any}
use Rattle.std.specs.Ordering.{nat_cmp}
use Rattle.std.specs.Cmp.Lexicographic.{slice_cmp}
use Rattle.std.specs.Str.{bytes_eq}

-- A file: its name, with / between the folders, and all of its bytes.
pub record File : Type 0 where
  pub name : List ℕ
  pub bytes : List ℕ

-- The bytes of the file of this name, where one is held.
abbrev pub file_at : List File → List ℕ → Option (List ℕ)
file_at files name = option_map (λ (f : File). f.bytes) (find (λ (f : File). bytes_eq f.name name) files)

-- The name of a class file: it ends in .class.
abbrev pub is_class_name : List ℕ → Bool
is_class_name name = ends_with nat_eq name (codes ".class")

-- The names of the class files, in the order in which the files stand.
abbrev pub class_names : List File → List (List ℕ)
class_names files = filter is_class_name (map (λ (f : File). f.name) files)

-- No two names are the same bytes.
abbrev pub names_differ : List (List ℕ) → Bool
names_differ [] = true
names_differ (name ∷ names) = not (list_any (bytes_eq name) names) && names_differ names

-- A listing of the files: the names of the class files, each once, in byte order.
pub record IsListing (files : List File) (names : List (List ℕ)) : Type 0 where
  pub each : IsPermutation (class_names files) names
  pub order : IsSorted (slice_cmp nat_cmp) names
