-- Callers take `Numbers`, `Sets` and `Added`; the other modules serve the proofs of this crate.
mod Counting
mod Places
mod Bits
pub mod Sets
mod Gathered
pub mod Added
pub mod Numbers
