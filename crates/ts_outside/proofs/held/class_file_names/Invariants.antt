use Rattle.std.proofs.Common.{◌≡◌, ◌++◌, drop, map, string_bytes}
use Rattle.ts_outside.specs.Files.{class_names}
use Rattle.ts_outside.specs.Held.{files_of}
use Rattle.ts_outside.proofs.held.class_file_names.Given as goal

abbrev pub invariant-loop-file : goal.invariant-loop-file
invariant-loop-file l =
    map string_bytes l.names.items ++ class_names (files_of (drop l.file-index l.files)) ≡ class_names (files_of l.files)
