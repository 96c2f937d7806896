pub mod Documents
pub mod Tables
