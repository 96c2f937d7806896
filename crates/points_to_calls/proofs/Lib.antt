-- `Makes` holds what grows, that no call is added, and what is: lemmas for none, one, both, the same, and loops.
-- What selection answers is the only answer or there is none: all clauses on targets and reasons follow from that.
-- Kept answers are stated by the names that numbers stand for (`IsFitAnswer`, `IsSelectAnswer`): growing tables keep them.
-- Use a `match` of two levels: the equation of a pattern within a variant's field does not convert.
pub mod CallParts
pub mod CatchChain
pub mod Origins
pub mod PassedUnits
pub mod Stubs
pub mod CallParted
pub mod ChosenTargets
pub mod PlainConstraints
pub mod RightAnswers
