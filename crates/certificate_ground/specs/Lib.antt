pub mod Listed
pub mod ListedGround
pub mod Pairs
pub mod Sites
pub mod Held
pub mod Reached
pub mod Targets
pub mod Lists
