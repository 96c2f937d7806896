use Rattle.std.proofs.Common.{◌≡◌, drop}
use Rattle.ts_outside.specs.Files.{file_at}
use Rattle.ts_outside.specs.Held.{files_of}
use Rattle.ts_outside.proofs.held.find.Given as goal

abbrev pub invariant-loop-file : goal.invariant-loop-file
invariant-loop-file l = file_at (files_of (drop l.file-index l.files)) l.name ≡ file_at (files_of l.files) l.name
