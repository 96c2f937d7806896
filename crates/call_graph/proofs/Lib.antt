-- A set takes one item more: "for all items of which these were the sets" (`TakesItem`).
-- No rule rests on what methods write (`plain_premises`): least sets are made one over the other (`least_together`).
-- Lists that grow without order are `AreAdded` of ground; `==` that tells keys apart is `Tells`.
pub mod Closings
pub mod Combined
pub mod ExactEdges
pub mod FoundFacts
pub mod GroundFacts
pub mod NodeEdges
pub mod ReadSites
pub mod SetsTaken
pub mod SolutionLists
mod NumberedMethods
mod RowSites
mod QueueSets
