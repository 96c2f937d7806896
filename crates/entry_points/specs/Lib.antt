pub mod Declaring
pub mod Entries
