pub mod Words
pub mod Added
