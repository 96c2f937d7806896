-- Nothing computes an automaton: that there is none follows from uniqueness (Parts.antt, Whole.antt).
-- `required` turns an option into the refusal of its key; so the function over all keys is a list of `?`, and one case each.
-- Constructors of `IsBroken` are not compared with each other: Broken.antt nests them as levels (`Told`), six of one shape.
-- One borrow of the states (`names`) for all later keys spares transports.
-- A variable named `other` or `no` is taken for a constructor.
pub mod Lists
pub mod Values
pub mod Parts
pub mod Whole
pub mod Broken
