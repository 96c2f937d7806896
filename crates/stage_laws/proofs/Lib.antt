pub mod Fronts
pub mod OrderedFacts
pub mod NormalFacts
