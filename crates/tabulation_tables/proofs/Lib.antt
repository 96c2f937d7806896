pub mod Edges
pub mod Still
pub mod Kept
mod Noted
