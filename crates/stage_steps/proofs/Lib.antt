-- Paths and Calm are the base of all. An operation that goes on: Shapes, Slots, then the cells (Roots, Fields, Elements), Born and Operations. Events.
-- Described methods: Kept and Described. Cells first, and only then the operation, keeps the cases few.
pub mod Paths
pub mod Calm
pub mod Sites
pub mod Shapes
pub mod Slots
pub mod Roots
pub mod Fields
pub mod Elements
pub mod Born
pub mod Operations
pub mod Events
pub mod Entering
pub mod Returning
pub mod Receiving
pub mod Rerooting
pub mod Raising
pub mod Leaving
pub mod Kept
pub mod Described
