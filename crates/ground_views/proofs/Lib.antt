-- Each instance has an edge to a node as its first premise, or none, and an edge of a method as its second (`Shapes`). A node of the ground stands alone
-- at its offset, and a node of the start does what each such node does, whatever is answered (`Slotless`, `Looked`); so both are looked at (`Seen`).
-- Its view shows what is seen of a node (`Viewed`), so what follows by the view follows there (`ViewedSteps`). The ways out of nodes stand one for one with the nodes (`OneForOne`).
pub mod Shapes
pub mod Ends
pub mod Viewed
mod OneForOne
mod Slotless
mod Looked
mod Seen
mod ViewedSteps
