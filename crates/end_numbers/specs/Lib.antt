pub mod Ends
pub mod RowFacts
pub mod KeyRows
pub mod Keys
