pub mod Views
pub mod Drafts
