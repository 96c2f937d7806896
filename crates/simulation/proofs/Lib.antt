-- `Fits` ranges over whatever code a frame's method has; a frame of the start, and one at a trigger, are cases of their own.
-- The node's `Placed` becomes the machine's by one path of records; move everything along it by one `subst`.
-- Plain instructions are one lemma for all rows, by where a slot lies: stored, pushed, cleared or untouched.
-- Names of classes differ by `ap (bytes_eq ..)`: `cc` meets its limit on `codes`.
-- Slots suffice since what is popped ends at the height: show that an operation reads popped units or local variables.
-- Handlers: one induction with "these are the handlers from a place on", for found and none alike.
-- Arrays that nodes make have no class's name (ArrayNames.antt): sites of a class are no arrays.
pub mod Effects
pub mod Rows
pub mod PlainNodes
pub mod Left
pub mod Locals
pub mod Instructions
pub mod Known
pub mod Leads
pub mod Parameters
pub mod Targets
pub mod CallNodes
pub mod Handlers
pub mod Fits
pub mod Running
pub mod StartFrames
pub mod Throwing
pub mod Leaving
pub mod Starting
pub mod Simulated
pub mod Accepted
pub mod Executions
pub mod Supplied
pub mod Pairs
pub mod Handled
pub mod Reached
pub mod Members
pub mod Numbers
pub mod RowUnits
pub mod Operations
pub mod FittingNodes
pub mod Whole
pub mod ArrayNames
pub mod CheckedIndexes
pub mod CallsOfNodes
pub mod Frames
pub mod Entered
pub mod Entering
pub mod CoveredExecutions
pub mod Covered
