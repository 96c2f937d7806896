pub mod States
pub mod Objects
pub mod Events
pub mod Described
pub mod Start
pub mod Machine
pub mod Executions
