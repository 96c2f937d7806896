-- Ranges of numbers are a closed set (`IsInRange`) and no invariant: use `derivation_in_closed`.
-- Listed methods are those of the items that are done; a turn gives one method or none.
mod ExactItems
pub mod QueueItems
mod QueueSteps
mod QueueTurns
mod ListedSites
mod Grouped
mod FirstNoted
mod Noting
mod Lacking
mod PassedOn
mod PassedAny
mod TurnParts
mod GivenMethods
pub mod ItemPlaces
mod Meanings
mod OneSite
mod NumberedCalls
mod RunningMethods
mod IndexedItems
mod Following
mod RefusedItems
mod NumberRanges
pub mod PairedFacts
mod SoFar
mod Reached
mod Closings
mod CodeStarts
mod RefusedNodes
mod NamedRefusals
mod OutOfRoom
mod Ends
mod StartParts
