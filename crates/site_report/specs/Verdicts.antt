-- This crate's own proofs alone rest on this module.
-- What stands before the site in its line.
use Rattle.std.specs.Prelude.{codes, ℕ, List, ◌++◌}
use Rattle.std.specs.Fmt.{decimal}
use Rattle.site_report.specs.declared.verdict.Verdict.{Verdict}
use Rattle.site_report.specs.declared.verdict.Verdict.TheVariants.{Safe, Unproved, Limit}

-- What is found of a site: a word, the number of the stage where there is one, and a space after each.
abbrev pub verdict_words : Verdict → List ℕ
verdict_words (Safe stage) = codes "safe " ++ decimal stage ++ codes " "
verdict_words Unproved = codes "unproved "
verdict_words (Limit stage) = codes "limit " ++ decimal stage ++ codes " "
