-- The instruction at an offset is one; its row and its base are then one, and all else is a function of these.
-- The class of a trigger is one: no name and descriptor is that of a field and of a method (Concerned.antt).
-- A value of the code is a record, a reference `record { ref_ptr = (0, 0); now = x }`, a row one of the code's (`shown_row`).
-- What there is, is made with the lemmas of the code: a judged step becomes its node by `ordered_node`, in order.
-- Thrown classes are added one by one behind those before, as the code does, so its lemmas give content and order.
-- Where one thing at most has a fact, `Known` has it or knows that there is none; each reason is then an `either_part`.
pub mod EachEffect
pub mod WalkEnds
pub mod StepRows
pub mod Equality
pub mod Only
pub mod Looking
pub mod Following
pub mod Matching
pub mod Stubs
pub mod Finalizers
pub mod EachReason
pub mod FirstReasons
pub mod OneRefusal
pub mod OneRow
pub mod Named
pub mod OneOperation
pub mod Concerned
pub mod AlikeNodes
pub mod OrderedNodes
pub mod Own
pub mod FirstSteps
pub mod FirstEntries
pub mod Judged
pub mod RowsShown
pub mod Members
pub mod FieldsNamed
pub mod Operations
pub mod Handlers
pub mod ThrownClasses
pub mod EachNode
pub mod Accepted
