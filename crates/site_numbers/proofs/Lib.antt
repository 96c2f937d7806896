pub mod Viewed
pub mod EqualWords
