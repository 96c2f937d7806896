pub mod Allocations
pub mod Shapes
pub mod Stores
