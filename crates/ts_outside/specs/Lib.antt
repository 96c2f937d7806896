pub mod Calls
pub mod Counts
pub mod Files
pub mod Handed
pub mod Held
pub mod Memory
pub mod Names
