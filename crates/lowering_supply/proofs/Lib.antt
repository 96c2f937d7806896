-- OneAnswer.antt: each case holds what was read before it, though later ones imply it; sixteen pairs are a line each.
-- An `impl` may ask less and tell more than its trait; the trait's clause stands beside it, under its name.
-- Offsets kept: of each class kept and each file that the class has, these are the file's. A new entry is by `cases_eq`.
pub mod Counting
pub mod Counted
pub mod Members
pub mod CodedMethods
pub mod EachAnswer
pub mod Maps
pub mod Shown
