pub mod EdgeLines
pub mod Told
