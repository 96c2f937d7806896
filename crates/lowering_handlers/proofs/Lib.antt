-- A clause that leaves the order of a list open has one beside it that fixes it.
-- Searches for initialisers are walks of `hierarchy`: only the induction over the chain is here (UpwardInitialisers.antt).
pub mod AddedClasses
pub mod OrderedClasses
pub mod TakenHandlers
pub mod ParameterCounts
pub mod CatchTypes
pub mod DeclaredInitialisers
pub mod UpwardInitialisers
pub mod MarkedEntries
pub mod CodeLengths
