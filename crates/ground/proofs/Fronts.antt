-- What is in the front of a list with one more, for the crates that take it from here.
pub use Rattle.list_laws.proofs.Places.{last_or_before, last_there, before_there}
