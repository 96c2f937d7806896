-- Answers are over what the struct keeps; `IsKnownIn` is carried over to that once (`inside`).
pub mod Knowing
