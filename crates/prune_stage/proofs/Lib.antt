-- An array in a struct keeps its length in a ghost field, or a write to it cannot be read back (`EventSet`).
pub mod Reach
mod Marking
mod OrderedSites
mod NumberedPlaces
mod MarkedCalls
mod PrunedSites
