pub mod References
pub mod Sites
pub mod Covering
pub mod Changes
pub mod Uses
