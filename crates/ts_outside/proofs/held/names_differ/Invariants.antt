use Rattle.std.proofs.Common.{◌≡◌, drop}
use Rattle.ts_outside.specs.Files.{names_differ}
use Rattle.ts_outside.specs.Held.{files_of, names_of}
use Rattle.ts_outside.proofs.held.names_differ.Given as goal

abbrev pub invariant-loop-index : goal.invariant-loop-index
invariant-loop-index l =
    names_differ (names_of (files_of (drop l.index l.files))) ≡ names_differ (names_of (files_of l.files))
