-- A lemma for each level, over what the level below gives: the same is read, or what is made stands against a refusal.
-- That a thing read is one is the law of its own layer (`one_answer`, `IsStubFile-unique`): nothing of it is proved again.
pub mod OneRequest
pub mod ReadFiles
pub mod OneFolder
pub mod OneEntry
pub mod OneAnalysis
pub mod Levels
pub mod OneOutcome
pub mod WholeInputs
pub mod OneRun
