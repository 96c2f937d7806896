pub mod ExactPlaces
pub mod PlaceHolders
pub mod Flattened
pub mod CountedPairs
pub mod TargetBodies
pub mod ExactParts
