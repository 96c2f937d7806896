-- A search through a list of facts finds just what the list contains, since the tests of sites, holders and fields are equality (`SameHolders`,
-- `Searches`). The way back from a node passes no node twice, since each node is reached from the first one; so the nodes of the method suffice to come
-- to where a variable begins (`Meetings`, `Ways`).
pub mod SameHolders
pub mod Searches
pub mod Meetings
pub mod Ways
pub mod Answering
