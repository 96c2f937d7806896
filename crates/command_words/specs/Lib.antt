pub mod Command
pub mod Requests
pub mod GivenValues
pub mod Options
