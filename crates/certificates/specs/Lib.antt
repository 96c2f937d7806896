pub mod Texts
pub mod Format
pub mod Reading
