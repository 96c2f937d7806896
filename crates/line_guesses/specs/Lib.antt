pub mod Guess
pub mod Fits
