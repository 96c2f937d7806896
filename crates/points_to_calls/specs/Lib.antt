pub mod Lacks
pub mod Parts
pub mod Giving
pub mod Describing
pub mod Constraints
pub mod Selecting
pub mod KeptAnswers
