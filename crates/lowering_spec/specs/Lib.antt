pub mod Moves
pub mod Operations
pub mod LoweredMethods
