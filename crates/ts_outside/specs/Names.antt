-- Public contracts rest on this module.
-- Names of files in a real folder.
use Rattle.std.specs.Prelude.{codes, ℕ, Bool, not, ◌&&◌, nat_eq, length, List, IsTrue, IsSorted}
use Rattle.std.specs.List.{list_all, list_any, slice_split}
use Rattle.std.specs.Ordering.{nat_cmp}
use Rattle.std.specs.Cmp.Lexicographic.{slice_cmp}
use Rattle.std.specs.Str.{bytes_eq}
use Rattle.ts_outside.specs.Files.{is_class_name}

-- The code of the slash, which stands between the folders in a name.
abbrev pub slash : ℕ
slash = 47

-- A part of a name can be that of an entry of a folder: it is not empty, neither . nor .., and has no NUL byte.
abbrev pub is_entry_name : List ℕ → Bool
is_entry_name part =
    not (nat_eq (length part) 0) && not (bytes_eq part (codes ".")) && not (bytes_eq part (codes "..")) && not (list_any (λ b. nat_eq b 0) part)

-- A walk could give the name: each part between its slashes can be that of an entry.
abbrev pub is_walked_name : List ℕ → Bool
is_walked_name name = list_all is_entry_name (slice_split (λ b. nat_eq b slash) name)

-- What is known of a listing whatever a real folder holds: its names are those of class files, in byte order.
pub record IsClassList (names : List (List ℕ)) : Type 0 where
  pub named : IsTrue (list_all is_class_name names)
  pub order : IsSorted (slice_cmp nat_cmp) names
