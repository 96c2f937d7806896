-- All is generic over the type of facts. A clause cannot range over rules: each crate above states its laws at its own.
-- A lemma that needs the recursion of the one it stands in gets it as an argument.
pub mod Places
pub mod Derivations
pub mod Joined
pub mod Least
pub mod Growing
pub mod Pigeons
pub mod Parts
