pub mod Lines
pub mod Printed
pub mod Sites
pub mod Verdicts
