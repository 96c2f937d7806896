pub mod Reading
pub mod Structures
