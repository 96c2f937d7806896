-- A function that gives a primitive from some slot on has a list that reads as it everywhere (`some_slots`): say no lengths.
-- What events, described methods and new objects change are lemmas on worlds (Moved.antt): machines add only cases of steps.
-- Whether a class has an initialiser is decided: bytes are a Code attribute's body or none (`body_or_not`), KnownCode.antt.
mod FirstStates
pub mod Heaps
pub mod Moved
pub mod Described
mod Steps
pub mod Errors
mod ProgressRows
pub mod ProgressSteps
pub mod ProgressDecided
pub mod ProgressCalls
mod ProgressRunning
mod ProgressThrown
mod ProgressStarts
mod ProgressArrays
pub mod KnownCode
mod NodeSteps
mod Slots
mod Operations
mod Calls
mod Thrown
mod Starts
mod Running
pub mod CodedInitialisers
pub mod StartNodes
