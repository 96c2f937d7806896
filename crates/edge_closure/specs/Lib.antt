pub mod Tried
pub mod Closings
