pub mod Derived
pub mod Marks
