-- Callers take `Walks`; the other modules serve the proofs of this crate.
pub mod Walks
mod Growing
mod Entered
mod Joining
