-- The files that a run reads, and the lines that it writes.
use Rattle.std.proofs.Common.{◌≡◌, ℕ, List, refl}
use Rattle.ts_outside.specs.Files.{File}
use Rattle.command_words.specs.declared.request.Mode.{Mode}
use Rattle.command_words.specs.declared.request.Mode.TheVariants as modes
use Rattle.command_words.specs.Requests.{Wanted, AsksFor}
use Rattle.run_spec.specs.Inputs.{AsksForSample, HaveDifferentNames, IsOfTree}
use Rattle.run_spec.specs.Outcomes.{files_read, lines_written}

-- they have different names, where those of the tree do
pub read_differ : (mode : Mode) (files : List File) → HaveDifferentNames files → HaveDifferentNames (files_read mode files)
read_differ modes.Report files differ = differ
read_differ modes.Trace files differ = differ
read_differ modes.Certificate files differ = differ
read_differ (modes.Sample count) files differ = refl

-- without a sample they are those of the tree, and all lines are written
pub read_are : (mode : Mode) (files : List File) → IsOfTree mode → files_read mode files ≡ files
read_are modes.Report files plain = refl
read_are modes.Trace files plain = refl
read_are modes.Certificate files plain = refl
read_are (modes.Sample count) files plain = absurd plain

pub written_are : (mode : Mode) (lines : List (List ℕ)) → IsOfTree mode → lines_written mode lines ≡ lines
written_are modes.Report lines plain = refl
written_are modes.Trace lines plain = refl
written_are modes.Certificate lines plain = refl
written_are (modes.Sample count) lines plain = absurd plain

-- words that ask for no sample are of the tree
pub of_tree : (words : List (List ℕ)) (w : Wanted) → AsksFor words w → (AsksForSample words → ⊥) → IsOfTree w.mode
of_tree words w asks none = by w.mode refl
  where
    by : (mode : Mode) → w.mode ≡ mode → IsOfTree mode
    by modes.Report is = tt
    by modes.Trace is = tt
    by modes.Certificate is = tt
    by (modes.Sample count) is = none (w, asks, count, is)
