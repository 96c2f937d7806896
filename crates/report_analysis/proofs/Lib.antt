-- What is said over listed methods is said over any supplier that gives them (Agreeing.antt), one lemma a definition.
-- `analyse` is two answers of a few lines, over the least sets that are made one over the other in call_graph.
pub mod Analysed
pub mod OwnProgram
pub mod Objects
pub mod JudgedReport
mod StageVerdicts
mod FoundLines
mod CallTargets
mod KnownSites
mod Agreeing
mod ListedVerdicts
mod TurnedRound
mod Reported
mod Tracing
mod ClaimedEdges
