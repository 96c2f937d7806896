pub mod Members
pub mod Places
pub mod Tests
pub mod Zips
