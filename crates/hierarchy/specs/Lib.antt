pub mod Searches
pub mod Upward
pub mod Casts
