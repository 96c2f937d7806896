-- A fold that may run out of memory carries a `Result`, and what a step makes is an `IfOk`.
-- A loop that looks for one closes alone where its claim is a record of one list; else `none_more`, `none_among` (Files.antt).
-- `AddsMethods`: `both_added` joins two steps by one equivalence; a loop, and a class with its interfaces, are one use each.
pub mod CodedMethods
pub mod AddedMethods
pub mod UpwardInitialisers
mod Files
mod Starting
