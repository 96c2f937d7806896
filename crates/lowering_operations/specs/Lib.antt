pub mod ByAction
pub mod Constants
pub mod MoveLists
pub mod Orders
pub mod Placements
pub mod UnitLists
