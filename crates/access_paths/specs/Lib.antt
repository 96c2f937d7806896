pub mod Paths
pub mod Followed
pub mod Sets
pub mod Orders
pub mod Operations
pub mod Gains
