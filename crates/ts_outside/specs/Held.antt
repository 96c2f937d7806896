-- Public contracts rest on this module.
-- The files that a program holds as pairs of a name and the bytes.
use Rattle.std.specs.Prelude.{List, map, ℕ, String, string_bytes, Vec}
use Rattle.std.specs.declared.alloc.Global.{Global}
use Rattle.ts_outside.specs.Files.{File}

-- One file, as a program holds it: its name and its bytes.
abbrev pub Pair : Type 0
Pair = String Global × Vec ℕ Global

-- The file that a pair is.
abbrev pub file_of : Pair → File
file_of pair = record { name = string_bytes pair.0; bytes = pair.1.items }

-- The files that the pairs are, in their order.
abbrev pub files_of : List Pair → List File
files_of pairs = map file_of pairs

-- The names of the files, in their order.
abbrev pub names_of : List File → List (List ℕ)
names_of files = map (λ (f : File). f.name) files
