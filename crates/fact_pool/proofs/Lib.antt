-- Callers take `Interned`; the other modules serve the proofs of this crate.
pub mod Adding
pub mod ChainSteps
pub mod Finding
pub mod Interned
pub mod Linking
pub mod Releasing
pub mod Rooms
pub mod RowLists
