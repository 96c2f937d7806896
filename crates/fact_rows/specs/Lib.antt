pub mod PathRows
pub mod FactRows
pub mod Packing
