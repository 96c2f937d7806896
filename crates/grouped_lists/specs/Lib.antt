pub mod Groups
pub mod Ordered
