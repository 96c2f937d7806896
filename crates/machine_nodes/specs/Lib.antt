pub mod Nodes
pub mod Slots
pub mod NodeSteps
pub mod NodeExecutions
