use Rattle.std.proofs.Common.{◌≡◌, drop}
use Rattle.std.specs.List.{list_any}
use Rattle.std.specs.Str.{bytes_eq}
use Rattle.ts_outside.specs.Held.{files_of, names_of}
use Rattle.ts_outside.proofs.held.is_held.Given as goal

abbrev pub invariant-loop-file : goal.invariant-loop-file
invariant-loop-file l =
    list_any (bytes_eq l.name) (names_of (files_of (drop l.file-index l.files))) ≡ list_any (bytes_eq l.name) (names_of (files_of l.files))
