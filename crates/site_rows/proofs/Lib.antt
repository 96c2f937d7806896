pub mod Setting
pub mod Gaining
pub mod Turns
pub mod Listing
