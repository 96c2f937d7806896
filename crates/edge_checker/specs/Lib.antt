pub mod Conditions
pub mod Spans
pub mod Failures
pub mod Parts
pub mod Laws
