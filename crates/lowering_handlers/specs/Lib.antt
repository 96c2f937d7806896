pub mod Initialisers
pub mod Exceptions
pub mod Catches
pub mod Entries
