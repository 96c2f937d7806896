-- This crate's own proofs alone rest on this module.
-- The numbers that words ask for.
use Rattle.command_words.specs.Requests.{Wanted}
use Rattle.report_spec.specs.Verdicts.{Asked}

-- The last stage, the depth and the limit of path edges.
abbrev pub asked_by : Wanted → Asked
asked_by w = record { stages = w.stages; depth = w.depth; fact_limit = w.fact_limit }
