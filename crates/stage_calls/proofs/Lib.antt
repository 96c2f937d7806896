-- Gathering: what a loop over paths gathers. Passing: the units of a call. SlotTests: slots of one variable.
-- Doubling: a path that is lost is doubled by a path of the caller that joins, or by none.
-- Happening: an event by the state that it leads to.
pub mod Gathering
pub mod Passing
pub mod SlotTests
pub mod Doubling
pub mod Happening
