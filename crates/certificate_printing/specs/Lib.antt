pub mod Collected
pub mod Analysed
