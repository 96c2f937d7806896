pub mod Grounds
pub mod Sets
pub mod Edges
pub mod Closing
pub mod Written
pub mod Rows
