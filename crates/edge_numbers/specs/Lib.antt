pub mod Inserted
pub mod EdgeRows
pub mod Named
pub mod Premises
