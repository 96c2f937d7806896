pub mod Folders
pub mod Sentences
