-- `Running` goes through all lemmas: a rule is then one to four lines. Import the rules as a module, for their constructors.
-- A set of items means a set of facts (`IsMeant`, by cases on the constraint); closed under rules, so is the meaning.
-- A call site is a literal over a record of parts, so places, kinds and allocations agree by computing.
pub mod Meanings
mod RunningNodes
mod MeantCalls
mod MeantNodes
pub mod MeantItems
pub mod Holders
pub mod CallSites
pub mod OneSite
mod Closing
mod ClosedNodes
mod CalledNodes
mod ClosedCalls
pub mod ClosedFacts
