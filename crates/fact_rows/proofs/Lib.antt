-- PathWords: a path is told by its words. Growing: what stays, and what is gained, while paths are made rows. Then Tuples: the row of a tuple;
-- Reading: a set and a tuple as they are read; and OneRow: the laws.
pub mod PathWords
pub mod Growing
pub mod Tuples
pub mod Reading
pub mod OneRow
