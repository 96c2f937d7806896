pub mod Findings
pub mod Lists
pub mod Told
pub mod Sound
pub mod CallEvents
pub mod Added
pub mod Ordered
