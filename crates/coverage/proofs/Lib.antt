-- `IsCovered Among heap v` is for any `Among`: one site, a sum, or the facts. `covered_by`, `covered_at`, `covered_as` do rules.
-- State a lemma on a step at the method that is asked for (`StandsIn`), never at the node that the machine found.
-- `Grows` carries all that stands in a heap: objects keep place, site and class.
-- A waiting frame's arguments read as primitives (`HasPassed`): that joins what a return leaves and what the rule says.
-- An initialiser that may start is kept with its premises, so both rules are one application, at the start too.
-- Virtual calls decide nothing: that a selection is not hidden is built from the refusal of the opposite.
-- A new object has its site's class in the invariant: rules filter by the site, the machine by the object.
pub mod Lists
pub mod Values
pub mod Effects
pub mod Arrays
pub mod Worlds
pub mod Frames
pub mod Places
pub mod Slots
pub mod Within
pub mod Advancing
pub mod RefusedCalls
pub mod Units
pub mod Targets
pub mod Calls
pub mod Stubs
pub mod Throws
pub mod Catches
pub mod Starts
pub mod FirstStates
pub mod Executions
pub mod Refused
pub mod Uses
pub mod KeptFields
pub mod Changed
