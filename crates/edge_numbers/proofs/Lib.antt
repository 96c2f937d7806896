pub mod Reasons
mod EdgeRows
