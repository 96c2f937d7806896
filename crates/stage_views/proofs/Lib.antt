-- Read Gathered first: what is gathered when a path more comes. Drafted is of the tuple that is gathered, and ArgumentSlots of what a call writes.
pub mod Gathered
pub mod Drafted
pub mod ArgumentSlots
