-- Pairs of a key and a value grow by relations: `AddsPairs`, as lists grow by `AreAdded` of ground. A table of them is read at the end (`ArePairs`).
-- Sites are numbered first, so that places stand for holders by one list of sites.
pub mod PairTables
pub mod NamedSites
pub mod HeldPairs
pub mod GivenMethods
pub mod CallTargets
pub mod ListedFacts
pub mod Ranged
