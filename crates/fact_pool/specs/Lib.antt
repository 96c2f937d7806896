pub mod Rows
pub mod Hashes
pub mod Layout
pub mod Chains
pub mod Pools
