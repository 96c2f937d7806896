pub mod StageOne
pub mod Pruning
pub mod Reaching
pub mod Marks
pub mod Places
