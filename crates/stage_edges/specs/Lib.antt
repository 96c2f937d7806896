pub mod Rules
pub mod Edges
