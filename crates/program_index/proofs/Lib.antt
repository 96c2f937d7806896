-- Order of classes: a class waits in the list of one supertype not yet placed, and remembers how far it looked; no counting.
-- A cycle is left: n + 1 steps through classes not placed give n + 1 different numbers below n (Cycles.antt).
-- A growing index says: of whatever list it was the index, it is that of one more. No ghost parameter.
-- Maps are std's and not of `indexmap`: each crate above would read all that `indexmap` states.
-- Answers to the goals of `settle` halved its time; keep them.
pub mod ListPlaces
pub mod IndexedTexts
pub mod TextPlaces
pub mod NumberedKeys
pub mod SpelledKeys
pub mod OrderPlaces
pub mod ClassLists
pub mod Marks
pub mod SearchedPlaces
pub mod UpwardSteps
pub mod Placing
pub mod Walking
pub mod Cycles
pub mod Searching
pub mod Gathering
pub mod Reaching
