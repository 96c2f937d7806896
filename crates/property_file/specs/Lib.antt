pub mod PropertyFile
pub mod Reading
pub mod Refusals
pub mod Rules
