-- Answers only pass on the clauses of the next level, over plain variables (Judging.antt, ProgramJudging.antt).
-- A clause of `run` that follows from others stands on `run` alone, by a law that it calls; work is in `judge_and_write`.
-- A new clause of `run` is repeated on `Ended::of_run` of the crate typestate.
-- What is left of one line is a list of lines, none or that one (`pending`): the loop's step has no case for its end.
-- A call that fails hands out nothing and stands alone at the end (`HandsInVain`).
-- `lines_in` recurs from the end, and names the later lines once; no text has an empty line, so writers have no premise.
pub mod Options
pub mod Stages
pub mod Wholes
pub mod Judging
pub mod ProgramJudging
pub mod ReadStubs
pub mod Reported
pub mod CallOrder
pub mod Cutting
pub mod LastLines
pub mod TextLines
pub mod Written
pub mod Handing
pub mod HandedRuns
pub mod RunTold
pub mod SafeLines
