-- Rows are trees in one list without a depth: slot 0, the odd slots, the even ones. `set` is one recursion by halves.
-- Every operation is a list of moves (`moves_of`), so the next row is one loop from the last move to the first.
-- Arrivals only rise, so what was noted is kept by one order, and a merge point is noted exactly.
-- No ring without a merge point is reached (one induction): so a predecessor's variable never begins at the node itself.
-- What a node hands on (`HandsOn`) is how a slot reads, whatever the operation; a return is then a step like others.
pub mod ListPlaces
pub mod RowValues
pub mod PlacedRows
pub mod SetRows
pub mod FoundPlaces
pub mod NotedArrivals
pub mod MovedVariables
pub mod EnteredNodes
pub mod ReachedNodes
pub mod NamedTables
pub mod PlaceBounds
pub mod PlacesOfSlots
mod Chains
pub mod Effects
mod Operations
pub mod OneVariable
pub mod MergePoints
pub mod EachVariable
mod Origins
pub mod Frames
mod Steps
