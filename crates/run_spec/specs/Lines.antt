-- Public contracts rest on this module.
-- The lines that a run writes where it has no report. Each ends with a newline.
use Rattle.std.specs.Prelude.{codes, ℕ, ◌-◌, List, [], ◌∷◌, ◌++◌, length, drop}
use Rattle.std.specs.Fmt.{decimal}
use Rattle.jvm_model.specs.declared.reason.Reason.{Reason}
use Rattle.jvm_model.specs.Words.{word_of}
use Rattle.command_words.specs.declared.fault.NumberOption.{NumberOption}
use Rattle.command_words.specs.declared.fault.NumberOption.TheVariants.{Stages, Depth, FactLimit, PairLimit, Sample}
use Rattle.command_words.specs.declared.fault.UsageFault.{UsageFault}
use Rattle.command_words.specs.declared.fault.UsageFault.TheVariants.{Words, Modes, Range}
use Rattle.site_report.specs.Printed.{printed}

-- The last of some lines.
abbrev pub last_of : List (List ℕ) → List (List ℕ)
last_of lines = drop (length lines - 1) lines

-- Where no file is concerned a minus stands in its place.
abbrev pub no_file : List ℕ
no_file = codes "-"

-- A file is refused at an offset.
abbrev pub refused_line : List ℕ → ℕ → Reason → List ℕ
refused_line file offset reason = codes "refused " ++ printed file ++ codes " " ++ decimal offset ++ codes " " ++ word_of reason ++ 10 ∷ []

-- A file that the words name is not there.
abbrev pub missing_line : List ℕ → List ℕ
missing_line name = codes "missing " ++ printed name ++ 10 ∷ []

-- An option as it is written.
abbrev pub option_word : NumberOption → List ℕ
option_word Stages = codes "--stages"
option_word Depth = codes "--depth"
option_word FactLimit = codes "--fact-limit"
option_word PairLimit = codes "--pair-limit"
option_word Sample = codes "--sample"

-- What is wrong with the words.
abbrev pub usage_line : UsageFault → List ℕ
usage_line Words = codes "usage words" ++ 10 ∷ []
usage_line Modes = codes "usage modes" ++ 10 ∷ []
usage_line (Range option) = codes "usage range " ++ option_word option ++ 10 ∷ []
