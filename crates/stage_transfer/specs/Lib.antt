pub mod Settings
pub mod Changes
pub mod Operations
pub mod Exceptions
pub mod Calls
pub mod Stages
